-- Over every state in which values lie in their types and all claims of a list are true: a value whose demands are met
-- isn't stuck and its range holds it, and what the list gives is true.
use Rattle.std.proofs.Common.{◌≡◌, ℕ, ℤ, pos, ◌+◌, ◌-◌, ◌^◌, ◌<◌, ◌≤◌, inl, inr, Bool, true, false, not, ◌&&◌, ◌||◌, List, [], ◌∷◌, Option, Some, None, nat_lt, nat_eq, refl, sym, ap, ◌∙◌, subst, arith}
use Rattle.std.specs.Prelude.{if◌then◌else◌, option_map, slice_get, nat_le, is_some}
use Rattle.std.proofs.lemmas.Int.{ints}
use Rattle.std.proofs.lemmas.Nat.{pow_pos}
use Rattle.std.proofs.lemmas.Bool.Decides.{nat_tests}
use Rattle.wf_text.specs.declared.rules.Rule.{Rule}
use Rattle.wf_text.specs.declared.rules.Refusal.{Refusal}
use Rattle.wf_text.specs.declared.place.Place.{Place}
use Rattle.wf_text.specs.StatusText.{category_of}
use Rattle.wf_num.specs.declared.ranges.Range.{Range}
use Rattle.wf_num.specs.Ranges.{Holds, HoldsInt, fits_width}
use Rattle.wf_num.proofs.RangeLaws.{some, powers, Holds-add, Holds-exact, Holds-width, fits-Holds}
use Rattle.wf_base.specs.BaseOps.{Buffer}
use Rattle.wf_base.specs.BaseOps as ops
use Rattle.wf_base.specs.BaseTable.{bits_of, can_peek, peek_value, peek_width, bytes_of}
use Rattle.wf_base.specs.declared.base_methods.PeekForm.{PeekForm}
use Rattle.wf_base.specs.declared.base_methods.PeekForm.TheVariants.{PeekU8, PeekU16Le, PeekU32Le}
use Rattle.wf_base.specs.declared.widths.Width.{Width}
use Rattle.wf_base.specs.declared.widths.Width.TheVariants.{W8, W16, W32, W64}
use Rattle.wf_ast.specs.declared.types.Ty.{Ty}
use Rattle.wf_ast.specs.declared.types.Ty.TheVariants as types
use Rattle.wf_ast.specs.TypedTree.{Path, arg, NumType, Arith, divided, remainder, shift_left, shift_right, mod_shift_left, Order, less, at_most, at_least, Question, reader_length, reader_position, peek, writer_length, writer_position, NumTree, number, read, element, link, convert, length_of, asked, SliceTree, slice, array, cut, EndTree, absent, present, StatusTree, status, held, no_status, CondTree, truth, flag, compare, same_status, junction, negation, closed, has_category, ValueTree, numeric, logical, state, elements, io, lost}
use Rattle.wf_ast.specs.Value.{Span, State, value, span_of, end_value, applied, io_buffer, status_value, truth_of, value_of, same_truth, same_category, compares}
use Rattle.wf_ast.specs.Same.{same_num}
use Rattle.wf_ast.specs.WellTyped.{Context, type_at, is_width, is_range, is_slice, is_reader, is_writer, question_width, fits, is_shift, element_type, same_num_type, is_constant, is_whole_number, well_part, well_num, is_unrefined, well_slice, well_end, well_status, well_cond, fit_together, width_of}
use Rattle.wf_ast.proofs.SameValue.{number_same, cond_same}
use Rattle.wf_facts_exprs.specs.Claims.{SideTree, single, sum, Claim, compared, stands, side_value, claim_truth, AllTrue, is_among, same_claim, with_answer}
use Rattle.wf_facts_exprs.specs.RangeOf.{first_rule, met_unless, rule_range, part_range, range_of, side_range, type_range, length_range, is_ordered}
use Rattle.wf_facts_exprs.specs.Given.{gives_sides, is_standing, gives_part}
use Rattle.wf_facts_exprs.specs.Demands.{demand, or_else, is_divisor, is_below, operand_demand, question_demand, ends_demand, num_refusal, slice_refusal, end_refusal, cond_refusal, value_refusal, side_refusal}
use Rattle.wf_facts_exprs.specs.LawfulState.{IsOf, HasElements, unrefined, IsLawful, well_side, well_claim, well_claims, well_value}
use Rattle.wf_facts_exprs.proofs.PassLemmas.{equal_numbers, lt_from, to_lt, or_cases, both_of, natural, whole, second-true, compares-complement}
use Rattle.wf_facts_exprs.proofs.OperatorLemmas.{result_of, demanded, Operands, operator-holds, Applied, operator-applied, applied-result}
use Rattle.wf_facts_exprs.proofs.ClaimLemmas.{side-same, sum-link, first-true, Agrees, met-holds, met-small, some_of}
use Rattle.wf_facts_exprs.proofs.Peeks.{peek-small}

-- ---- refusals

none-parts : (p q : Option Refusal) → or_else p q ≡ None → (p ≡ None) × (q ≡ None)
none-parts None q h = (refl, h)
none-parts (Some r) q h = absurd (cc (h))

-- A demand of an operand is met at one place as at another.
moved : (b : Bool) (rule : Rule) (at : Place) → demand b rule at ≡ None → (other : Place) → demand b rule other ≡ None
moved true rule at h other = refl
moved false rule at h other = absurd (cc (h))

asked-anywhere : (op : Arith) (bits : ℕ) (sign : Place) (r : Range) → operand_demand op bits sign r ≡ None → (other : Place) → operand_demand op bits other r ≡ None
asked-anywhere divided bits sign r h other = moved (is_divisor r) _ sign h other
asked-anywhere remainder bits sign r h other = moved (is_divisor r) _ sign h other
asked-anywhere shift_left bits sign r h other = moved (is_below bits r) _ sign h other
asked-anywhere shift_right bits sign r h other = moved (is_below bits r) _ sign h other
asked-anywhere mod_shift_left bits sign r h other = moved (is_below bits r) _ sign h other
asked-anywhere op bits sign r h other = refl

-- ---- widths

width-64 : (bits : ℕ) → is_width bits ≡ true → bits ≤ 64
width-64 bits h = elim (or_cases (nat_eq bits 8) _ h) [
  | inl e ↦ omega (arith, equal_numbers bits 8 e)
  | inr h ↦ elim (or_cases (nat_eq bits 16) _ h) [
    | inl e ↦ omega (arith, equal_numbers bits 16 e)
    | inr h ↦ elim (or_cases (nat_eq bits 32) _ h) [
      | inl e ↦ omega (arith, equal_numbers bits 32 e)
      | inr e ↦ omega (arith, equal_numbers bits 64 e)
    ]
  ]
]

bits_small : (w : Width) → bits_of w ≤ 64
bits_small W8 = omega arith
bits_small W16 = omega arith
bits_small W32 = omega arith
bits_small W64 = omega arith

-- Numbers of the type are numbers of its width.
record IsSmallType (of : NumType) : Type 0 where
  bits : of.bits ≤ 64
  high : of.high < 2 ^ of.bits

range-small : (of : NumType) → is_range of ≡ true → IsSmallType of
range-small of h =
    let p = both_of (is_width of.bits) _ h in
    let q = both_of (nat_le of.low of.high) _ p.1 in
    record { bits = width-64 of.bits p.0; high = lt_from of.high (2 ^ of.bits) q.1 }

slice-small : (bits : ℕ) (ty : Option Ty) → is_slice bits ty ≡ true → IsSmallType (unrefined bits)
slice-small bits (Some (types.Slice width)) h =
    let same = equal_numbers bits (bits_of width) h in
    let le = bits_small width in
    record { bits = omega (arith, same, le); high = omega (arith, pow_pos bits) }
slice-small bits (Some (types.Num width lo hi)) h = absurd (cc (h))
slice-small bits (Some types.Flag) h = absurd (cc (h))
slice-small bits (Some types.Status) h = absurd (cc (h))
slice-small bits (Some types.Reader) h = absurd (cc (h))
slice-small bits (Some types.Writer) h = absurd (cc (h))
slice-small bits (Some (types.Array width lo hi count)) h = absurd (cc (h))
slice-small bits (Some (types.Part s)) h = absurd (cc (h))
slice-small bits None h = absurd (cc (h))

module _ (c : Context) (s : State) (lawful : IsLawful c s) (fs : List Claim) (well : well_claims c fs ≡ true) (claims : AllTrue s fs) where
  -- A number that isn't stuck, in its range and its width.
  pub record Sound (part : Bool) (t : NumTree) : Type 0 where
    pub number : ℕ
    pub is : value s t ≡ Some number
    pub in_range : Holds (part_range part fs t) number
    pub small : (part_range part fs t).hi < 2 ^ 64
    pub within : (bits : ℕ) → fits bits t ≡ true → number < 2 ^ bits

  pub record SoundSpan (t : SliceTree) : Type 0 where
    pub cells : Span
    pub is : span_of s t ≡ Some cells
    pub items : HasElements s (element_type t) cells
    pub count : Holds (length_range t) cells.count
    pub small : (length_range t).hi < 2 ^ 64

  -- ---- meeting

  closed-holds : (part : Bool) (t : NumTree) (r : Range) (z : ℤ) → (part ≡ false → Agrees c s t z) → HoldsInt r z → HoldsInt (met_unless part fs t r) z
  closed-holds true t r z agree h = h
  closed-holds false t r z agree h = met-holds c s fs t r z well claims (agree refl) h

  closed-small : (part : Bool) (t : NumTree) (r : Range) → r.hi < 2 ^ 64 → (met_unless part fs t r).hi < 2 ^ 64
  closed-small true t r h = h
  closed-small false t r h = met-small fs t (2 ^ 64) r h

  side-well : (t : NumTree) → well_num c t ≡ true → well_side c (single t) ≡ true
  side-well t h = by_test (is_constant t)
    where
      by_test : (b : Bool) → (b || well_num c t) ≡ true
      by_test true = refl
      by_test false = h

  whole-well : (part : Bool) (t : NumTree) → (part || is_whole_number t) ≡ true → well_part c t ≡ true → part ≡ false → well_num c t ≡ true
  whole-well true t h k e = absurd (cc (e))
  whole-well false t h k e = rw (h, k) refl

  -- A number whose value is known.
  settled : (part : Bool) (t : NumTree) (n : ℕ) → (part || is_whole_number t) ≡ true → well_part c t ≡ true → value s t ≡ Some n → Holds (rule_range fs t) n
      → (rule_range fs t).hi < 2 ^ 64 → ((bits : ℕ) → fits bits t ≡ true → n < 2 ^ bits) → Sound part t
  settled part t n w p is h small within = record {
    number = n;
    is = is;
    in_range = natural _ _ (closed-holds part t (rule_range fs t) (pos n)
        (λ e l m wl same v. ap pos (sym (side-same c s l (single t) m n wl (side-well t (whole-well part t w p e)) same v is))) (whole _ _ h));
    small = closed-small part t (rule_range fs t) small;
    within = within;
  }

  -- ---- what is given of two sides

  pub sides-true : (a b : SideTree) (op : Order) (m n : ℕ) → well_side c a ≡ true → well_side c b ≡ true → side_value s a ≡ Some m → side_value s b ≡ Some n
      → Holds (side_range fs a) m → Holds (side_range fs b) n → gives_sides fs a op b ≡ true → compares op m n ≡ true
  sides-true a b op m n wa wb p q h k g = elim (or_cases (first_rule fs a op b) _ g) [
    | inl e ↦ first-true c s fs a b op m n well claims wa wb p q e
    | inr e ↦ second-true op (side_range fs a) (side_range fs b) m n h k e
  ]

  -- Two numbers that are sound.
  given-pair : (t u : NumTree) (op : Order) → well_num c t ≡ true → well_num c u ≡ true → (x : Sound false t) (y : Sound false u) → gives_sides fs (single t) op (single u) ≡ true → compares op x.number y.number ≡ true
  given-pair t u op wt wu x y g = sides-true (single t) (single u) op x.number y.number (side-well t wt) (side-well u wu) x.is y.is x.in_range y.in_range g

  -- ---- operators

  record LinkRules (op : Arith) (bits : ℕ) (joined : Bool) (a b : NumTree) : Type 0 where
    width : is_width bits ≡ true
    left_fits : fits bits a ≡ true
    right_fits : (is_shift op || fits bits b) ≡ true
    whole_left : (joined || is_whole_number a) ≡ true
    left : well_part c a ≡ true
    whole_right : is_whole_number b ≡ true
    right : well_part c b ≡ true

  link-rules : (at sign : Place) (op : Arith) (bits : ℕ) (joined : Bool) (a b : NumTree) → well_part c (link at sign op bits joined a b) ≡ true → LinkRules op bits joined a b
  link-rules at sign op bits joined a b h =
      let p1 = both_of (is_width bits) _ h in
      let p2 = both_of (fits bits a) _ p1.1 in
      let p3 = both_of (is_shift op || fits bits b) _ p2.1 in
      let p4 = both_of _ _ p3.1 in
      let p5 = both_of (joined || is_whole_number a) _ p4.1 in
      let p6 = both_of (well_part c a) _ p5.1 in
      let p7 = both_of (is_whole_number b) _ p6.1 in
      record { width = p1.0; left_fits = p2.0; right_fits = p3.0; whole_left = p5.0; left = p6.0; whole_right = p7.0; right = p7.1 }

  not_shift : (x y : Bool) → (x || y) ≡ true → x ≡ false → y ≡ true
  not_shift true y h e = absurd (cc (e))
  not_shift false y h e = h

  -- The right operand of `-` is given to be at most the left one.
  ordered : (joined : Bool) (a b : NumTree) → well_num c b ≡ true → (joined ≡ false → well_num c a ≡ true) → (m n : ℕ) → value s a ≡ Some m → value s b ≡ Some n → is_ordered fs joined a b ≡ true → n ≤ m
  ordered true a b wb wa m n p q h = absurd (cc (h))
  ordered false a b wb wa m n p q h =
      let t : compares at_most n m ≡ true = first-true c s fs (single b) (single a) at_most n m well claims (side-well b wb) (side-well a (wa refl)) q p h in
      grind (arith, nat_tests, t)

  -- Whatever side of an operator's tree has a value has the operator's.
  link-agrees : (at sign : Place) (op : Arith) (bits : ℕ) (joined : Bool) (a b : NumTree) (m n : ℕ) → well_num c (link at sign op bits joined a b) ≡ true
      → value s a ≡ Some m → value s b ≡ Some n → Agrees c s (link at sign op bits joined a b) (result_of op bits m n)
  link-agrees at sign op bits joined a b m n w p q (sum l r) k wl same v = sum-link c s l r at sign op bits joined a b m n k w wl same v p q
  link-agrees at sign op bits joined a b m n w p q (single t) k wl same v = by_form t wl same v
    where
      known : (t : NumTree) → well_num c t ≡ true → same_num t (link at sign op bits joined a b) ≡ true → value s t ≡ Some k → result_of op bits m n ≡ pos k
      known t wt same v =
          let e = number_same c s t (link at sign op bits joined a b) wt w same in
          let f : value s (link at sign op bits joined a b) ≡ applied op bits m n = rw (p, q) refl in
          applied-result op bits m n k (sym f ∙ sym e ∙ v)

      by_form : (t : NumTree) → well_side c (single t) ≡ true → same_num t (link at sign op bits joined a b) ≡ true → value s t ≡ Some k → result_of op bits m n ≡ pos k
      by_form (number at' i) wt same v = absurd (cc (same))
      by_form t wt same v = known t wt same v

  link-sound : (part : Bool) (at sign : Place) (op : Arith) (bits : ℕ) (joined : Bool) (a b : NumTree) → (part || is_whole_number (link at sign op bits joined a b)) ≡ true
      → well_part c (link at sign op bits joined a b) ≡ true → (x : Sound joined a) (y : Sound false b)
      → ((sign : Place) → operand_demand op bits sign (range_of fs b) ≡ None) → fits_width (part_range part fs (link at sign op bits joined a b)) bits ≡ true
      → Sound part (link at sign op bits joined a b)
  link-sound part at sign op bits joined a b w h x y asked_of fits_it =
      let t : NumTree = link at sign op bits joined a b in
      let r : LinkRules op bits joined a b = link-rules at sign op bits joined a b h in
      let wb : well_num c b ≡ true = whole-well false b r.whole_right r.right refl in
      let operands : Operands op bits (is_ordered fs joined a b) (part_range joined fs a) (range_of fs b) x.number y.number = record {
        left = x.in_range;
        right = y.in_range;
        left_small = x.small;
        right_small = y.small;
        left_within = x.within bits r.left_fits;
        right_within = λ e. y.within bits (not_shift (is_shift op) (fits bits b) r.right_fits e);
        order = ordered joined a b wb (whole-well joined a r.whole_left r.left) x.number y.number x.is y.is;
        asked = asked_of;
      } in
      let z : ℤ = result_of op bits x.number y.number in
      let raw : HoldsInt (rule_range fs t) z = operator-holds op bits (is_ordered fs joined a b) (part_range joined fs a) (range_of fs b) x.number y.number operands in
      let inside : HoldsInt (part_range part fs t) z = closed-holds part t (rule_range fs t) z (λ e. link-agrees at sign op bits joined a b x.number y.number (whole-well part t w h e) x.is y.is) raw in
      let v : Applied op bits x.number y.number = operator-applied op bits (part_range part fs t) (range_of fs b) x.number y.number (x.within bits r.left_fits) y.in_range asked_of fits_it inside in
      let P : ℤ → Type 0 = λ z. HoldsInt (part_range part fs t) z in
      let holds : Holds (part_range part fs t) v.value = natural _ _ (subst P v.result inside) in
      record {
        number = v.value;
        is = rw (x.is, y.is) v.is;
        in_range = holds;
        small = fit-small (part_range part fs t) bits v.value (width-64 bits r.width) fits_it holds;
        within = λ k e. let same = equal_numbers k bits e in let P : ℕ → Type 0 = λ k. v.value < 2 ^ k in subst P (sym same) v.within;
      }
    where
      fit-small : (r : Range) (bits n : ℕ) → bits ≤ 64 → fits_width r bits ≡ true → Holds r n → r.hi < 2 ^ 64
      fit-small r bits n le e h =
          let i = some r n h in
          let k : r.hi < 2 ^ bits = grind (arith, ints, nat_tests, i, e) in
          omega (arith, k, powers bits 64 le)

  -- ---- elements and lengths

  width-of : (bits n : ℕ) → n < 2 ^ bits → (k : ℕ) → nat_eq k bits ≡ true → n < 2 ^ k
  width-of bits n h k e = let P : ℕ → Type 0 = λ k. n < 2 ^ k in subst P (sym (equal_numbers k bits e)) h

  pub length-sound : (part : Bool) (at : Place) (t : SliceTree) → well_slice c t ≡ true → (x : SoundSpan t) → Sound part (length_of at t)
  length-sound part at t w x =
      let i = x.is in
      settled part (length_of at t) x.cells.count (whole-test part) w (rw i refl) x.count x.small (λ k e. width-of 64 x.cells.count x.items.few k e)
    where
      whole-test : (part : Bool) → (part || is_whole_number (length_of at t)) ≡ true
      whole-test true = refl
      whole-test false = refl

  type-holds : (of : NumType) (n : ℕ) → IsOf of n → Holds (type_range of) n
  type-holds of n h = record { above = omega (arith, ints, h.above); below = h.below }

  type-small : (of : NumType) → IsSmallType of → (type_range of).hi < 2 ^ 64
  type-small of h = omega (arith, h.high, powers of.bits 64 h.bits)

  elements-small : (t : SliceTree) → well_slice c t ≡ true → IsSmallType (element_type t)
  elements-small (slice at bits path) h = slice-small bits (type_at c path) h
  elements-small (array at of count path) h = range-small of (both_of (is_range of) _ h).0
  elements-small (cut at t from to) h = elements-small t (both_of (well_slice c t) _ (both_of _ _ h).1).0

  same-type : (of own : NumType) → same_num_type of own ≡ true → of ≡ own
  same-type of own h =
      let p = both_of (nat_eq of.bits own.bits) _ h in
      let q = both_of (nat_eq of.low own.low) _ p.1 in
      let e = equal_numbers of.bits own.bits p.0 in
      let f = equal_numbers of.low own.low q.0 in
      let g = equal_numbers of.high own.high q.1 in
      λ i. record { bits = e i; low = f i; high = g i }

  element-value : (at : Place) (of : NumType) (t : SliceTree) (index : NumTree) (xs : Span) (k n : ℕ) → span_of s t ≡ Some xs → value s index ≡ Some k → nat_lt k xs.count ≡ true
      → slice_get (s.cells_at xs.store) (xs.from + k) ≡ Some n → value s (element at of t index) ≡ Some n
  element-value at of t index xs k n p q test found = rw (p, q, test) found

  pub element-sound : (part : Bool) (at : Place) (of : NumType) (t : SliceTree) (index : NumTree) → well_part c (element at of t index) ≡ true → (x : SoundSpan t) (y : Sound false index)
      → gives_sides fs (single index) less (single (length_of at t)) ≡ true → Sound part (element at of t index)
  element-sound part at of t index w x y g =
      let p = both_of (same_num_type of (element_type t)) _ w in
      let q = both_of (well_slice c t) _ p.1 in
      let r = both_of (is_whole_number index) _ q.1 in
      let z : Sound false (length_of at t) = length-sound false at t q.0 x in
      let wi : well_num c index ≡ true = rw (r.0, r.1) refl in
      let wl : well_num c (length_of at t) ≡ true = q.0 in
      let told_less : compares less y.number z.number ≡ true = given-pair index (length_of at t) less wi wl y z g in
      let same : z.number ≡ x.cells.count = some_of z.number x.cells.count (sym z.is ∙ ap (option_map (λ (xs : Span). xs.count)) x.is) in
      let inside : y.number < x.cells.count = omega (arith, lt_from y.number z.number told_less, same) in
      let found = x.items.items y.number inside in
      let ty = same-type of (element_type t) p.0 in
      let P : NumType → Type 0 = λ own. IsOf own found.0 in
      let is_of : IsOf of found.0 = subst P (sym ty) found.2 in
      let Q : NumType → Type 0 = IsSmallType in
      let few : IsSmallType of = subst Q (sym ty) (elements-small t q.0) in
      let test : nat_lt y.number x.cells.count ≡ true = to_lt y.number x.cells.count inside in
      settled part (element at of t index) found.0 (whole-test part) w (element-value at of t index x.cells y.number found.0 x.is y.is test found.1) (type-holds of found.0 is_of) (type-small of few)
      (λ k e. width-of of.bits found.0 (omega (arith, few.high, is_of.below)) k e)
    where
      whole-test : (part : Bool) → (part || is_whole_number (element at of t index)) ≡ true
      whole-test true = refl
      whole-test false = refl

  pub read-sound : (part : Bool) (at : Place) (of : NumType) (path : Path) → well_part c (read at of path) ≡ true → Sound part (read at of path)
  read-sound part at of path w =
      let p = both_of (is_range of) _ w in
      let found = lawful.numbers path of p.1 in
      let few = range-small of p.0 in
      let is_of : IsOf of found.0 = found.2 in
      settled part (read at of path) found.0 (whole-test part) w found.1 (type-holds of found.0 is_of) (type-small of few)
      (λ k e. width-of of.bits found.0 (omega (arith, few.high, is_of.below)) k e)
    where
      whole-test : (part : Bool) → (part || is_whole_number (read at of path)) ≡ true
      whole-test true = refl
      whole-test false = refl

  pub number-sound : (part : Bool) (at : Place) (n : ℕ) → well_part c (number at n) ≡ true → Sound part (number at n)
  number-sound part at n w =
      settled part (number at n) n (whole-test part) w refl (Holds-exact n) (lt_from n (2 ^ 64) w) (λ k e. lt_from n (2 ^ k) e)
    where
      whole-test : (part : Bool) → (part || is_whole_number (number at n)) ≡ true
      whole-test true = refl
      whole-test false = refl

  pub convert-sound : (part : Bool) (at sign : Place) (bits : ℕ) (a : NumTree) → well_part c (convert at sign bits a) ≡ true → (x : Sound false a) → fits_width (range_of fs a) bits ≡ true → Sound part (convert at sign bits a)
  convert-sound part at sign bits a w x e =
      let below = fits-Holds (range_of fs a) bits x.number e x.in_range in
      let test = to_lt x.number (2 ^ bits) below in
      settled part (convert at sign bits a) x.number (whole-test part) w (rw (x.is, test) refl) x.in_range x.small (λ k e. width-of bits x.number below k e)
    where
      whole-test : (part : Bool) → (part || is_whole_number (convert at sign bits a)) ≡ true
      whole-test true = refl
      whole-test false = refl

  -- ---- readers and writers

  record SoundBuffer (a : ℕ) : Type 0 where
    buffer : Buffer
    is : io_buffer s a ≡ Some buffer
    lawful_buffer : ops.IsLawful buffer

  buffer-sound : (a : ℕ) → (is_reader (type_at c (arg a)) || is_writer (type_at c (arg a))) ≡ true → SoundBuffer a
  buffer-sound a h =
      let found = lawful.buffers a h in
      record { buffer = found.1; is = rw (found.2, found.3) refl; lawful_buffer = found.4 }

  or-left : (x y : Bool) → x ≡ true → (x || y) ≡ true
  or-left true y h = refl
  or-left false y h = absurd (cc (h))

  or-right : (x y : Bool) → y ≡ true → (x || y) ≡ true
  or-right true y h = refl
  or-right false y h = h

  asked-known : (part : Bool) (at : Place) (q : Question) (a n : ℕ) → well_part c (asked at q a) ≡ true → value s (asked at q a) ≡ Some n → n < 2 ^ question_width q → question_width q ≤ 64 → Sound part (asked at q a)
  asked-known part at q a n w is below le =
      settled part (asked at q a) n (whole-test part) w is (Holds-width (question_width q) n below) (omega (arith, powers (question_width q) 64 le, pow_pos (question_width q))) (λ k e. width-of (question_width q) n below k e)
    where
      whole-test : (part : Bool) → (part || is_whole_number (asked at q a)) ≡ true
      whole-test true = refl
      whole-test false = refl

  length-asked : (part : Bool) (at : Place) (a : ℕ) → is_reader (type_at c (arg a)) ≡ true → Sound part (asked at reader_length a)
  length-asked part at a w =
      let b : SoundBuffer a = buffer-sound a (or-left _ _ w) in
      let l = b.lawful_buffer in
      asked-known part at reader_length a (ops.reader_length b.buffer) w (rw b.is refl) (omega (arith, l.read, l.written, l.size)) (omega arith)

  bytes-fit : (form : PeekForm) → bytes_of (peek_width form) < 2 ^ 64
  bytes-fit PeekU8 = omega arith
  bytes-fit PeekU16Le = omega arith
  bytes-fit PeekU32Le = omega arith

  pub asked-sound : (part : Bool) (at : Place) (q : Question) (a : ℕ) → well_part c (asked at q a) ≡ true → question_demand fs at q a ≡ None → Sound part (asked at q a)
  asked-sound part at reader_length a w d = length-asked part at a w
  asked-sound part at reader_position a w d =
      let b : SoundBuffer a = buffer-sound a (or-left _ _ w) in
      asked-known part at reader_position a (ops.reader_position b.buffer) w (rw b.is refl) (omega arith) (omega arith)
  asked-sound part at writer_length a w d =
      let b : SoundBuffer a = buffer-sound a (or-right _ _ w) in
      asked-known part at writer_length a (ops.writer_length b.buffer) w (rw b.is refl) (room b.buffer.closed b.buffer b.lawful_buffer) (omega arith)
    where
      room : (closed : Bool) (b : Buffer) → ops.IsLawful b → (if closed then 0 else ops.capacity b - b.wi) < 2 ^ 64
      room true b l = omega arith
      room false b l = omega (arith, l.size)
  asked-sound part at writer_position a w d =
      let b : SoundBuffer a = buffer-sound a (or-right _ _ w) in
      asked-known part at writer_position a (ops.writer_position b.buffer) w (rw b.is refl) (omega arith) (omega arith)
  asked-sound part at (peek form) a w d =
      let b : SoundBuffer a = buffer-sound a (or-left _ _ w) in
      let g = demanded (gives_sides fs (single (asked at reader_length a)) at_least (single (number at (bytes_of (peek_width form))))) _ at d in
      let x : Sound false (asked at reader_length a) = length-asked false at a w in
      let y : Sound false (number at (bytes_of (peek_width form))) = number-sound false at (bytes_of (peek_width form)) (to_lt (bytes_of (peek_width form)) (2 ^ 64) (bytes-fit form)) in
      let enough : compares at_least x.number y.number ≡ true = given-pair (asked at reader_length a) (number at (bytes_of (peek_width form))) at_least w (to_lt (bytes_of (peek_width form)) (2 ^ 64) (bytes-fit form)) x y g in
      let same : x.number ≡ ops.reader_length b.buffer = some_of x.number (ops.reader_length b.buffer) (sym x.is ∙ rw b.is refl) in
      let count : y.number ≡ bytes_of (peek_width form) = some_of y.number (bytes_of (peek_width form)) (sym y.is) in
      let test : can_peek form b.buffer ≡ true = rw (sym same, sym count) enough in
      asked-known part at (peek form) a (peek_value form b.buffer) w (rw (b.is, test) refl) (peek-small form b.buffer b.lawful_buffer) (bits_small (peek_width form))

  -- ---- all numbers and slices

  -- The two ends of a slice are in order, and in its bounds.
  record EndsIn (from to : EndTree) (count : ℕ) : Type 0 where
    first : ℕ
    last : ℕ
    first_is : end_value s 0 from ≡ Some first
    last_is : end_value s count to ≡ Some last
    ordered_ends : first ≤ last
    inside : last ≤ count

  cut-span : (at : Place) (t : SliceTree) (from to : EndTree) (x : SoundSpan t) → EndsIn from to x.cells.count → SoundSpan (cut at t from to)
  cut-span at t from to x e =
      let a = e.ordered_ends in
      let b = e.inside in
      let l : nat_le e.first e.last ≡ true = grind (arith, nat_tests, a) in
      let m : nat_le e.last x.cells.count ≡ true = grind (arith, nat_tests, b) in
      let few = x.items.few in
      record {
        cells = record { store = x.cells.store; from = x.cells.from + e.first; count = e.last - e.first };
        is = rw (x.is, e.first_is, e.last_is, l, m) refl;
        items = record {
          few = omega (arith, few, b);
          items = λ k inside.
              let found = x.items.items (e.first + k) (omega (arith, a, b, inside)) in
              let same : x.cells.from + (e.first + k) ≡ x.cells.from + e.first + k = omega arith in
              let P : ℕ → Type 0 = λ j. slice_get (s.cells_at x.cells.store) j ≡ Some found.0 in
              (found.0, subst P same found.1, found.2);
        };
        count = Holds-width 64 (e.last - e.first) (omega (arith, few, b));
        small = omega arith;
      }

  ends-in : (at : Place) (t : SliceTree) (from to : EndTree) → well_slice c t ≡ true → (x : SoundSpan t) → well_end c from ≡ true → well_end c to ≡ true
      → ((i : NumTree) → from ≡ present i → Sound false i) → ((j : NumTree) → to ≡ present j → Sound false j) → ends_demand fs at t from to ≡ None → EndsIn from to x.cells.count
  ends-in at t absent absent w x wf wt f g d = record { first = 0; last = x.cells.count; first_is = refl; last_is = refl; ordered_ends = omega arith; inside = omega arith }
  ends-in at t (present i) absent w x wf wt f g d =
      let y : Sound false i = f i refl in
      let z : Sound false (length_of at t) = length-sound false at t w x in
      let wi = both_of (is_whole_number i) _ wf in
      let test : compares at_most y.number z.number ≡ true = given-pair i (length_of at t) at_most (rw (wi.0, wi.1) refl) w y z (demanded (gives_sides fs (single i) at_most (single (length_of at t))) _ at d) in
      let same : z.number ≡ x.cells.count = some_of z.number x.cells.count (sym z.is ∙ ap (option_map (λ (xs : Span). xs.count)) x.is) in
      let le : y.number ≤ z.number = grind (arith, nat_tests, test) in
      record { first = y.number; last = x.cells.count; first_is = y.is; last_is = refl; ordered_ends = omega (arith, le, same); inside = omega arith }
  ends-in at t absent (present j) w x wf wt f g d =
      let y : Sound false j = g j refl in
      let z : Sound false (length_of at t) = length-sound false at t w x in
      let wj = both_of (is_whole_number j) _ wt in
      let p = none-parts (demand (gives_sides fs (single (number at 0)) at_most (single j)) _ at) _ d in
      let test : compares at_most y.number z.number ≡ true = given-pair j (length_of at t) at_most (rw (wj.0, wj.1) refl) w y z (demanded (gives_sides fs (single j) at_most (single (length_of at t))) _ at p.1) in
      let same : z.number ≡ x.cells.count = some_of z.number x.cells.count (sym z.is ∙ ap (option_map (λ (xs : Span). xs.count)) x.is) in
      let le : y.number ≤ z.number = grind (arith, nat_tests, test) in
      record { first = 0; last = y.number; first_is = refl; last_is = y.is; ordered_ends = omega arith; inside = omega (arith, le, same) }
  ends-in at t (present i) (present j) w x wf wt f g d =
      let v : Sound false i = f i refl in
      let y : Sound false j = g j refl in
      let z : Sound false (length_of at t) = length-sound false at t w x in
      let wi = both_of (is_whole_number i) _ wf in
      let wj = both_of (is_whole_number j) _ wt in
      let p = none-parts (demand (gives_sides fs (single i) at_most (single j)) _ at) _ d in
      let first_test : compares at_most v.number y.number ≡ true = given-pair i j at_most (rw (wi.0, wi.1) refl) (rw (wj.0, wj.1) refl) v y (demanded (gives_sides fs (single i) at_most (single j)) _ at p.0) in
      let test : compares at_most y.number z.number ≡ true = given-pair j (length_of at t) at_most (rw (wj.0, wj.1) refl) w y z (demanded (gives_sides fs (single j) at_most (single (length_of at t))) _ at p.1) in
      let same : z.number ≡ x.cells.count = some_of z.number x.cells.count (sym z.is ∙ ap (option_map (λ (xs : Span). xs.count)) x.is) in
      let le : y.number ≤ z.number = grind (arith, nat_tests, test) in
      let order : v.number ≤ y.number = grind (arith, nat_tests, first_test) in
      record { first = v.number; last = y.number; first_is = v.is; last_is = y.is; ordered_ends = order; inside = omega (arith, le, same) }

  mutual
    pub num-sound : (part : Bool) (t : NumTree) → (part || is_whole_number t) ≡ true → well_part c t ≡ true → num_refusal fs part t ≡ None → Sound part t
    num-sound part (number at n) w h e = number-sound part at n h
    num-sound part (read at of path) w h e = read-sound part at of path h
    num-sound part (element at of t index) w h e =
        let p = both_of (well_slice c t) _ (both_of (same_num_type of (element_type t)) _ h).1 in
        let q = both_of (is_whole_number index) _ p.1 in
        let r = none-parts (slice_refusal fs t) _ e in
        let r' = none-parts (num_refusal fs false index) _ r.1 in
        element-sound part at of t index h (span-sound t p.0 r.0) (num-sound false index q.0 q.1 r'.0) (demanded (gives_sides fs (single index) less (single (length_of at t))) _ at r'.1)
    num-sound part (link at sign op bits joined a b) w h e =
        let rules : LinkRules op bits joined a b = link-rules at sign op bits joined a b h in
        let p = none-parts (num_refusal fs joined a) _ e in
        let q = none-parts (num_refusal fs false b) _ p.1 in
        let r = none-parts (operand_demand op bits sign (range_of fs b)) _ q.1 in
        link-sound part at sign op bits joined a b w h (num-sound joined a rules.whole_left rules.left p.0) (num-sound false b rules.whole_right rules.right q.0) (asked-anywhere op bits sign (range_of fs b) r.0)
        (demanded (fits_width (part_range part fs (link at sign op bits joined a b)) bits) _ sign r.1)
    num-sound part (convert at sign bits a) w h e =
        let p = both_of (is_whole_number a) _ (both_of (is_width bits) _ h).1 in
        let q = none-parts (num_refusal fs false a) _ e in
        convert-sound part at sign bits a h (num-sound false a p.0 p.1 q.0) (demanded (fits_width (range_of fs a) bits) _ sign q.1)
    num-sound part (length_of at t) w h e = length-sound part at t h (span-sound t h e)
    num-sound part (asked at q a) w h e = asked-sound part at q a h e

    pub span-sound : (t : SliceTree) → well_slice c t ≡ true → slice_refusal fs t ≡ None → SoundSpan t
    span-sound (slice at bits path) h e =
        let found = lawful.slices path bits h in
        record { cells = found.0; is = found.1; items = found.2; count = Holds-width 64 found.0.count found.2.few; small = omega arith }
    span-sound (array at of count path) h e =
        let p = both_of (is_range of) _ h in
        let found = lawful.arrays path of count p.1 in
        let same : found.0.count ≡ count = found.3 in
        let P : ℕ → Type 0 = λ k. Holds (length_range (array at of count path)) k in
        record { cells = found.0; is = found.1; items = found.2; count = subst P (sym same) (Holds-exact count); small = omega (arith, found.2.few, same) }
    span-sound (cut at t from to) h e =
        let p = both_of (well_slice c t) _ (both_of (is_unrefined (element_type t)) _ h).1 in
        let q = both_of (well_end c from) _ p.1 in
        let r = none-parts (slice_refusal fs t) _ e in
        let r1 = none-parts (end_refusal fs from) _ r.1 in
        let r2 = none-parts (end_refusal fs to) _ r1.1 in
        let x : SoundSpan t = span-sound t p.0 r.0 in
        cut-span at t from to x (ends-in at t from to p.0 x q.0 q.1 (λ i is. end-sound from q.0 r1.0 i is) (λ j is. end-sound to q.1 r2.0 j is) r2.1)

    end-sound : (t : EndTree) → well_end c t ≡ true → end_refusal fs t ≡ None → (i : NumTree) → t ≡ present i → Sound false i
    end-sound absent h e i is = absurd (cc (is))
    end-sound (present t) h e i is =
        let same : t ≡ i = cc (is) in
        let p = both_of (is_whole_number t) _ h in
        let P : NumTree → Type 0 = λ t. Sound false t in
        subst P same (num-sound false t p.0 p.1 e)

  pub num-of : (t : NumTree) → well_num c t ≡ true → num_refusal fs false t ≡ None → Sound false t
  num-of t h e = let p = both_of (is_whole_number t) _ h in num-sound false t p.0 p.1 e

  compare-wells : (at sign : Place) (a : NumTree) (op : Order) (b : NumTree) → well_cond c (compare at sign a op b) ≡ true → (well_num c a ≡ true) × (well_num c b ≡ true)
  compare-wells at sign a op b h = both_of (well_num c a) _ (both_of (fit_together a b (width_of a) (width_of b)) _ h).1

  -- ---- conditions

  pub record SoundStatus (t : StatusTree) : Type 0 where
    pub number : ℕ
    pub is : status_value s t ≡ Some number

  pub status-sound : (t : StatusTree) → well_status c t ≡ true → SoundStatus t
  status-sound (status at n) h = record { number = n; is = refl }
  status-sound (held at path) h = let found = lawful.statuses path h in record { number = found.0; is = found.1 }
  status-sound no_status h = absurd (cc (h))

  pub record SoundCond (t : CondTree) : Type 0 where
    pub answer : Bool
    pub is : truth_of s t ≡ Some answer

  pub cond-sound : (t : CondTree) → well_cond c t ≡ true → cond_refusal fs t ≡ None → SoundCond t
  cond-sound (truth at b) h e = record { answer = b; is = refl }
  cond-sound (flag at path) h e = let found = lawful.flags path h in record { answer = found.0; is = found.1 }
  cond-sound (compare at sign a op b) h e =
      let p = compare-wells at sign a op b h in
      let q = none-parts (num_refusal fs false a) _ e in
      let x : Sound false a = num-of a p.0 q.0 in
      let y : Sound false b = num-of b p.1 q.1 in
      record { answer = compares op x.number y.number; is = rw (x.is, y.is) refl }
  cond-sound (same_status at sign a one b) h e =
      let p = both_of (well_status c a) _ h in
      let x : SoundStatus a = status-sound a p.0 in
      let y : SoundStatus b = status-sound b p.1 in
      record { answer = same_truth one (nat_eq x.number y.number); is = rw (x.is, y.is) refl }
  cond-sound (junction at both joined a b) h e =
      let p = both_of (well_cond c a) _ h in
      let q = none-parts (cond_refusal fs a) _ e in
      let x : SoundCond a = cond-sound a p.0 q.0 in
      let y : SoundCond b = cond-sound b p.1 q.1 in
      record { answer = if both then x.answer && y.answer else x.answer || y.answer; is = rw (x.is, y.is) refl }
  cond-sound (negation at a) h e = let x : SoundCond a = cond-sound a h e in record { answer = not x.answer; is = rw x.is refl }
  cond-sound (closed at a) h e = let b : SoundBuffer a = buffer-sound a (or-left _ _ h) in record { answer = b.buffer.closed; is = rw b.is refl }
  cond-sound (has_category at a category) h e =
      let x : SoundStatus a = status-sound a h in
      record { answer = same_category category (category_of (s.status_text x.number)); is = rw x.is refl }

  -- ---- what is given of a condition

  truth_is : (a b : Bool) → same_truth a b ≡ true → a ≡ b
  truth_is true true h = refl
  truth_is false false h = refl
  truth_is true false h = absurd (cc (h))
  truth_is false true h = absurd (cc (h))

  claimed : (answer : Bool) (x : Option Bool) → option_map (same_truth answer) x ≡ Some true → x ≡ Some answer
  claimed answer None h = absurd (cc (h))
  claimed true (Some true) h = refl
  claimed false (Some false) h = refl
  claimed true (Some false) h = absurd (cc (h))
  claimed false (Some true) h = absurd (cc (h))

  stands-true : (f : Claim) (t : CondTree) (answer : Bool) → well_claim c f ≡ true → claim_truth s f ≡ Some true → well_cond c t ≡ true → same_claim f (stands t answer) ≡ true → truth_of s t ≡ Some answer
  stands-true (compared l op r) t answer w u h e = absurd (cc (e))
  stands-true (stands d known) t answer w u h e =
      let p = both_of (same_truth known answer) _ e in
      let same : truth_of s d ≡ truth_of s t = cond_same c s d t w h p.1 in
      sym same ∙ claimed known (truth_of s d) u ∙ ap (λ b. Some b) (truth_is known answer p.0)

  among-true : (gs : List Claim) (t : CondTree) (answer : Bool) → well_claims c gs ≡ true → AllTrue s gs → well_cond c t ≡ true → is_among gs (stands t answer) ≡ true → truth_of s t ≡ Some answer
  among-true [] t answer w u h e = absurd (cc (e))
  among-true (f ∷ gs) t answer w u h e =
      let p = both_of (well_claim c f) _ w in
      elim (or_cases (same_claim f (stands t answer)) _ e) [
        | inl i ↦ stands-true f t answer p.0 u.0 h i
        | inr i ↦ among-true gs t answer p.1 u.1 h i
      ]

  standing : (t : CondTree) (answer : Bool) → well_cond c t ≡ true → is_standing fs t answer ≡ true → truth_of s t ≡ Some answer
  standing t answer h e = among-true fs t answer well claims h e

  answered : (op : Order) (m n : ℕ) (answer : Bool) → compares (with_answer answer op) m n ≡ true → compares op m n ≡ answer
  answered op m n true h = h
  answered op m n false h = flipped (compares op m n) (sym (compares-complement op m n) ∙ h)
    where
      flipped : (b : Bool) → not b ≡ true → b ≡ false
      flipped true e = absurd (cc (e))
      flipped false e = refl

  all-given : (both answer : Bool) → (if both then answer && answer else answer || answer) ≡ answer
  all-given true true = refl
  all-given true false = refl
  all-given false true = refl
  all-given false false = refl

  one-given-left : (both answer other : Bool) → same_truth both answer ≡ false → (if both then answer && other else answer || other) ≡ answer
  one-given-left true true other h = absurd (cc (h))
  one-given-left true false other h = refl
  one-given-left false true other h = refl
  one-given-left false false other h = absurd (cc (h))

  one-given-right : (both answer other : Bool) → same_truth both answer ≡ false → (if both then other && answer else other || answer) ≡ answer
  one-given-right true true other h = absurd (cc (h))
  one-given-right true false true h = refl
  one-given-right true false false h = refl
  one-given-right false true true h = refl
  one-given-right false true false h = refl
  one-given-right false false other h = absurd (cc (h))

  junction-value : (at : Place) (both joined : Bool) (a b : CondTree) (p q answer : Bool) → truth_of s a ≡ Some p → truth_of s b ≡ Some q → (if both then p && q else p || q) ≡ answer → truth_of s (junction at both joined a b) ≡ Some answer
  junction-value at both joined a b p q answer x y e = rw (x, y) (ap (λ b. Some b) e)

  given-junction : (part : Bool) (at : Place) (both joined : Bool) (a b : CondTree) (answer : Bool) → well_cond c (junction at both joined a b) ≡ true → (x : SoundCond a) → (y : SoundCond b)
      → (gives_part joined fs a answer ≡ true → truth_of s a ≡ Some answer) → (gives_part false fs b answer ≡ true → truth_of s b ≡ Some answer)
      → (all : Bool) → same_truth both answer ≡ all → (if all then gives_part joined fs a answer && gives_part false fs b answer
      else gives_part joined fs a answer || (gives_part false fs b answer || (not part && is_standing fs (junction at both joined a b) answer))) ≡ true
      → truth_of s (junction at both joined a b) ≡ Some answer
  given-junction part at both joined a b answer h x y left right true i k =
      let p = both_of (gives_part joined fs a answer) _ k in
      junction-value at both joined a b answer answer answer (left p.0) (right p.1) (all-given both answer)
  given-junction part at both joined a b answer h x y left right false i k = elim (or_cases (gives_part joined fs a answer) _ k) [
    | inl l ↦ junction-value at both joined a b answer y.answer answer (left l) y.is (one-given-left both answer y.answer i)
    | inr l ↦ elim (or_cases (gives_part false fs b answer) _ l) [
      | inl r ↦ junction-value at both joined a b x.answer answer answer x.is (right r) (one-given-right both answer x.answer i)
      | inr r ↦ standing (junction at both joined a b) answer h (both_of (not part) _ r).1
    ]
  ]

  pub gives-true : (part : Bool) (t : CondTree) (answer : Bool) → well_cond c t ≡ true → cond_refusal fs t ≡ None → gives_part part fs t answer ≡ true → truth_of s t ≡ Some answer
  gives-true part (truth at b) answer h e g = elim (or_cases (same_truth b answer) _ g) [
    | inl i ↦ ap (λ b. Some b) (truth_is b answer i)
    | inr i ↦ standing (truth at b) answer h i
  ]
  gives-true part (flag at path) answer h e g = standing (flag at path) answer h g
  gives-true part (compare at sign a op b) answer h e g =
      let p = compare-wells at sign a op b h in
      let q = none-parts (num_refusal fs false a) _ e in
      let x : Sound false a = num-of a p.0 q.0 in
      let y : Sound false b = num-of b p.1 q.1 in
      let t : compares (with_answer answer op) x.number y.number ≡ true = given-pair a b (with_answer answer op) p.0 p.1 x y g in
      rw (x.is, y.is) (ap (λ b. Some b) (answered op x.number y.number answer t))
  gives-true part (same_status at sign a one b) answer h e g = standing (same_status at sign a one b) answer h g
  gives-true part (junction at both joined a b) answer h e g =
      let wells = both_of (well_cond c a) _ h in
      let fine = none-parts (cond_refusal fs a) _ e in
      given-junction part at both joined a b answer h (cond-sound a wells.0 fine.0) (cond-sound b wells.1 fine.1)
      (λ k. gives-true joined a answer wells.0 fine.0 k) (λ k. gives-true false b answer wells.1 fine.1 k) (same_truth both answer) refl g
  gives-true part (negation at a) answer h e g = negated answer (gives-true false a (not answer) h e g)
    where
      negated : (answer : Bool) → truth_of s a ≡ Some (not answer) → option_map not (truth_of s a) ≡ Some answer
      negated true k = rw k refl
      negated false k = rw k refl
  gives-true part (closed at a) answer h e g = standing (closed at a) answer h g
  gives-true part (has_category at a category) answer h e g = standing (has_category at a category) answer h g

  -- ---- values of every kind

  pub value-sound : (t : ValueTree) → well_value c t ≡ true → value_refusal fs t ≡ None → is_some (value_of s t) ≡ true
  value-sound (numeric t) h e = let x : Sound false t = num-of t h e in rw x.is refl
  value-sound (logical t) h e = let x : SoundCond t = cond-sound t h e in rw x.is refl
  value-sound (state t) h e = let x : SoundStatus t = status-sound t h in rw x.is refl
  value-sound (elements t) h e = let x : SoundSpan t = span-sound t h e in rw x.is refl
  value-sound (io at a) h e = let found = lawful.buffers a h in rw found.2 refl
  value-sound lost h e = absurd (cc (h))

  -- ---- sides

  pub record SoundSide (a : SideTree) : Type 0 where
    pub number : ℕ
    pub is : side_value s a ≡ Some number
    pub in_range : Holds (side_range fs a) number

  pub side-sound : (a : SideTree) → well_side c a ≡ true → side_refusal fs a ≡ None → SoundSide a
  side-sound (sum a b) h e =
      let p = both_of (well_num c a) _ h in
      let q = none-parts (num_refusal fs false a) _ e in
      let x : Sound false a = num-of a p.0 q.0 in
      let y : Sound false b = num-of b p.1 q.1 in
      record { number = x.number + y.number; is = rw (x.is, y.is) refl; in_range = Holds-add (range_of fs a) (range_of fs b) x.number y.number x.in_range y.in_range }
  side-sound (single (number at n)) h e = record {
    number = n;
    is = refl;
    in_range = natural _ _ (closed-holds false (number at n) (rule_range fs (number at n)) (pos n)
        (λ k l m wl same v. ap pos (sym (side-same c s l (single (number at n)) m n wl refl same v refl))) (whole _ _ (Holds-exact n)));
  }
  side-sound (single t) h e = let x : Sound false t = num-of t h e in record { number = x.number; is = x.is; in_range = x.in_range }

  pub sides-given : (a b : SideTree) (op : Order) → well_side c a ≡ true → well_side c b ≡ true → side_refusal fs a ≡ None → side_refusal fs b ≡ None → gives_sides fs a op b ≡ true → claim_truth s (compared a op b) ≡ Some true
  sides-given a b op wa wb ea eb g =
      let x : SoundSide a = side-sound a wa ea in
      let y : SoundSide b = side-sound b wb eb in
      let t : compares op x.number y.number ≡ true = sides-true a b op x.number y.number wa wb x.is y.is x.in_range y.in_range g in
      rw (x.is, y.is) (ap (λ b. Some b) t)

  pub range-holds : (t : NumTree) → well_num c t ≡ true → num_refusal fs false t ≡ None → (n : ℕ) → value s t ≡ Some n → Holds (range_of fs t) n
  range-holds t h e n is =
      let x : Sound false t = num-of t h e in
      let P : ℕ → Type 0 = λ n. Holds (range_of fs t) n in
      subst P (some_of x.number n (sym x.is ∙ is)) x.in_range
