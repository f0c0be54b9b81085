-- Well typed trees that are the same have the same value in every state.
use Rattle.std.proofs.Common.{◌≡◌, ℕ, ◌-◌, ◌^◌, ◌<◌, ◌≤◌, Bool, true, false, not, ◌&&◌, ◌||◌, Option, Some, None, ◌⊎◌, inl, inr, refl, sym, ap, ◌∙◌, subst, arith, nat_eq}
use Rattle.std.specs.Prelude.{option_and_then, option_map, if◌then◌else◌}
use Rattle.std.proofs.lemmas.Bool.Decides.{nat_tests}
use Rattle.wf_text.specs.StatusText.{category_of}
use Rattle.wf_text.specs.declared.categories.Category.{Category}
use Rattle.wf_text.specs.declared.categories.Category.TheVariants.{Fine, Note, Suspension, Fault}
use Rattle.wf_base.specs.BaseOps.{Buffer}
use Rattle.wf_base.specs.declared.base_methods.PeekForm.{PeekForm}
use Rattle.wf_base.specs.declared.base_methods.PeekForm.TheVariants.{PeekU8, PeekU16Le, PeekU32Le}
use Rattle.wf_base.specs.BaseTable.{bits_of}
use Rattle.wf_ast.specs.declared.types.Ty.{Ty}
use Rattle.wf_ast.specs.declared.types.Ty.TheVariants as types
use Rattle.wf_ast.specs.TypedTree.{Path, local, field, arg, NumType, Arith, plus, minus, times, divided, remainder, shift_left, shift_right, bits_and, bits_or, bits_xor, mod_plus, mod_minus, mod_times, mod_shift_left, sat_plus, sat_minus, Order, less, at_most, equal, differs, at_least, greater, Question, reader_length, reader_position, peek, writer_length, writer_position, NumTree, number, read, element, link, convert, length_of, asked, SliceTree, slice, array, cut, EndTree, absent, present, StatusTree, status, held, no_status, CondTree, truth, flag, compare, same_status, junction, negation, closed, has_category}
use Rattle.wf_ast.specs.Value.{State, Span, value, span_of, end_value, applied, element_of, part_of, told, io_buffer, fitted, same_truth, same_category, compares, status_value, truth_of}
use Rattle.wf_ast.specs.Same.{peek_number, same_path, same_arith, same_question, same_width, same_num, same_slice, same_end, same_order, same_state, same_cond}
use Rattle.wf_ast.specs.WellTyped.{Context, type_at, is_width, is_range, same_num_type, is_number, is_array, is_slice, question_width, fits, is_shift, continues, element_type, is_constant, varies, is_whole_number, well_part, well_slice, well_end, well_num, width_of, is_unrefined, fit_together, well_cond}
use Rattle.wf_ast.proofs.Arena.{both_true}

equal_numbers : (m n : ℕ) → nat_eq m n ≡ true → m ≡ n
equal_numbers m n h = grind (arith, nat_tests, h)

pub path_same : (p q : Path) → same_path p q ≡ true → p ≡ q
path_same (local m) (local n) h = ap local (equal_numbers m n h)
path_same (field m) (field n) h = ap field (equal_numbers m n h)
path_same (arg m) (arg n) h = ap arg (equal_numbers m n h)
path_same p q h = absurd (cc (h))

arith_same : (f g : Arith) → same_arith f g ≡ true → f ≡ g
arith_same plus plus h = refl
arith_same minus minus h = refl
arith_same times times h = refl
arith_same divided divided h = refl
arith_same remainder remainder h = refl
arith_same shift_left shift_left h = refl
arith_same shift_right shift_right h = refl
arith_same bits_and bits_and h = refl
arith_same bits_or bits_or h = refl
arith_same bits_xor bits_xor h = refl
arith_same mod_plus mod_plus h = refl
arith_same mod_minus mod_minus h = refl
arith_same mod_times mod_times h = refl
arith_same mod_shift_left mod_shift_left h = refl
arith_same sat_plus sat_plus h = refl
arith_same sat_minus sat_minus h = refl
arith_same f g h = absurd (cc (h))

peek_low : (form : PeekForm) → peek_number form < 3
peek_low PeekU8 = omega arith
peek_low PeekU16Le = omega arith
peek_low PeekU32Le = omega arith

peek_same : (f g : PeekForm) → nat_eq (peek_number f) (peek_number g) ≡ true → f ≡ g
peek_same PeekU8 PeekU8 h = refl
peek_same PeekU16Le PeekU16Le h = refl
peek_same PeekU32Le PeekU32Le h = refl
peek_same f g h = absurd (cc (h))

not_peek : (form : PeekForm) (n : ℕ) → 3 ≤ n → nat_eq (peek_number form) n ≡ true → ⊥
not_peek form n k h = let low = peek_low form in let e = equal_numbers (peek_number form) n h in omega (arith, low, e, k)

not_peek' : (form : PeekForm) (n : ℕ) → 3 ≤ n → nat_eq n (peek_number form) ≡ true → ⊥
not_peek' form n k h = let low = peek_low form in let e = equal_numbers n (peek_number form) h in omega (arith, low, e, k)

question_same : (p q : Question) → same_question p q ≡ true → p ≡ q
question_same (peek f) (peek g) h = ap peek (peek_same f g h)
question_same (peek f) reader_length h = absurd (not_peek f 3 (omega arith) h)
question_same (peek f) reader_position h = absurd (not_peek f 4 (omega arith) h)
question_same (peek f) writer_length h = absurd (not_peek f 5 (omega arith) h)
question_same (peek f) writer_position h = absurd (not_peek f 6 (omega arith) h)
question_same reader_length (peek f) h = absurd (not_peek' f 3 (omega arith) h)
question_same reader_position (peek f) h = absurd (not_peek' f 4 (omega arith) h)
question_same writer_length (peek f) h = absurd (not_peek' f 5 (omega arith) h)
question_same writer_position (peek f) h = absurd (not_peek' f 6 (omega arith) h)
question_same reader_length reader_length h = refl
question_same reader_position reader_position h = refl
question_same writer_length writer_length h = refl
question_same writer_position writer_position h = refl
question_same p q h = absurd (cc (h))

truth_same : (a b : Bool) → same_truth a b ≡ true → a ≡ b
truth_same true true h = refl
truth_same false false h = refl
truth_same true false h = absurd (cc (h))
truth_same false true h = absurd (cc (h))

num_type_same : (a b : NumType) → same_num_type a b ≡ true → a ≡ b
num_type_same a b h =
    let p = both_true (nat_eq a.bits b.bits) _ h in
    let q = both_true (nat_eq a.low b.low) _ p.1 in
    let e = equal_numbers a.bits b.bits p.0 in
    let f = equal_numbers a.low b.low q.0 in
    let g = equal_numbers a.high b.high q.1 in
    λ i. record { bits = e i; low = f i; high = g i }

-- A path has one type.
one_number : (of other : NumType) (ty : Option Ty) → is_number of ty ≡ true → is_number other ty ≡ true → of ≡ other
one_number of other (Some (types.Num width lo hi)) h k =
    let n : NumType = record { bits = bits_of width; low = lo; high = hi } in
    num_type_same of n h ∙ sym (num_type_same other n k)
one_number of other (Some types.Flag) h k = absurd (cc (h))
one_number of other (Some types.Status) h k = absurd (cc (h))
one_number of other (Some types.Reader) h k = absurd (cc (h))
one_number of other (Some types.Writer) h k = absurd (cc (h))
one_number of other (Some (types.Slice width)) h k = absurd (cc (h))
one_number of other (Some (types.Array width lo hi count)) h k = absurd (cc (h))
one_number of other (Some (types.Part s)) h k = absurd (cc (h))
one_number of other None h k = absurd (cc (h))

one_array : (of other : NumType) (m n : ℕ) (ty : Option Ty) → is_array of m ty ≡ true → is_array other n ty ≡ true → of ≡ other
one_array of other m n (Some (types.Array width lo hi count)) h k =
    let t : NumType = record { bits = bits_of width; low = lo; high = hi } in
    num_type_same of t (both_true (nat_eq m count) _ h).1 ∙ sym (num_type_same other t (both_true (nat_eq n count) _ k).1)
one_array of other m n (Some (types.Num width lo hi)) h k = absurd (cc (h))
one_array of other m n (Some types.Flag) h k = absurd (cc (h))
one_array of other m n (Some types.Status) h k = absurd (cc (h))
one_array of other m n (Some types.Reader) h k = absurd (cc (h))
one_array of other m n (Some types.Writer) h k = absurd (cc (h))
one_array of other m n (Some (types.Slice width)) h k = absurd (cc (h))
one_array of other m n (Some (types.Part s)) h k = absurd (cc (h))
one_array of other m n None h k = absurd (cc (h))

one_slice : (bits other : ℕ) (ty : Option Ty) → is_slice bits ty ≡ true → is_slice other ty ≡ true → bits ≡ other
one_slice bits other (Some (types.Slice width)) h k = equal_numbers bits (bits_of width) h ∙ sym (equal_numbers other (bits_of width) k)
one_slice bits other (Some (types.Num width lo hi)) h k = absurd (cc (h))
one_slice bits other (Some types.Flag) h k = absurd (cc (h))
one_slice bits other (Some types.Status) h k = absurd (cc (h))
one_slice bits other (Some types.Reader) h k = absurd (cc (h))
one_slice bits other (Some types.Writer) h k = absurd (cc (h))
one_slice bits other (Some (types.Array width lo hi count)) h k = absurd (cc (h))
one_slice bits other (Some (types.Part s)) h k = absurd (cc (h))
one_slice bits other None h k = absurd (cc (h))

order_same : (f g : Order) → same_order f g ≡ true → f ≡ g
order_same less less h = refl
order_same at_most at_most h = refl
order_same equal equal h = refl
order_same differs differs h = refl
order_same at_least at_least h = refl
order_same greater greater h = refl
order_same f g h = absurd (cc (h))

category_same : (a b : Category) → same_category a b ≡ true → a ≡ b
category_same Fine Fine h = refl
category_same Note Note h = refl
category_same Suspension Suspension h = refl
category_same Fault Fault h = refl
category_same a b h = absurd (cc (h))

some_of : (m n : ℕ) → Some m ≡ Some n → m ≡ n
some_of m n h = cc

module _ (c : Context) where
  path_type : (p q : Path) → same_path p q ≡ true → type_at c p ≡ type_at c q
  path_type p q h = ap (type_at c) (path_same p q h)

  -- The elements of the same slice have one type.
  same_elements : (a b : SliceTree) → well_slice c a ≡ true → well_slice c b ≡ true → same_slice a b ≡ true → element_type a ≡ element_type b
  same_elements (slice at bits p) (slice at' bits' q) h k e =
      let P : Option Ty → Type 0 = λ ty. is_slice bits ty ≡ true in
      let same = one_slice bits bits' (type_at c q) (subst P (path_type p q e) h) k in
      ap (λ n. record { bits = n; low = 0; high = 2 ^ n - 1 }) same
  same_elements (array at of count p) (array at' of' count' q) h k e =
      let P : Option Ty → Type 0 = λ ty. is_array of count ty ≡ true in
      one_array of of' count count' (type_at c q) (subst P (path_type p q e) (both_true (is_range of) _ h).1) (both_true (is_range of') _ k).1
  same_elements (cut at a from to) (cut at' b from' to') h k e =
      same_elements a b (both_true (well_slice c a) _ (both_true (is_unrefined (element_type a)) _ h).1).0 (both_true (well_slice c b) _ (both_true (is_unrefined (element_type b)) _ k).1).0 (both_true (same_slice a b) _ e).0
  same_elements (slice at bits p) (array at' of count q) h k e = absurd (cc (e))
  same_elements (slice at bits p) (cut at' b from to) h k e = absurd (cc (e))
  same_elements (array at of count p) (slice at' bits q) h k e = absurd (cc (e))
  same_elements (array at of count p) (cut at' b from to) h k e = absurd (cc (e))
  same_elements (cut at a from to) (slice at' bits q) h k e = absurd (cc (e))
  same_elements (cut at a from to) (array at' of count q) h k e = absurd (cc (e))

  -- What fits a width, and has one, has this one.
  fits_own : (bits : ℕ) (t : NumTree) (w : ℕ) → fits bits t ≡ true → width_of t ≡ Some w → bits ≡ w
  fits_own bits (number at n) w h e = absurd (cc (e))
  fits_own bits (read at of path) w h e = equal_numbers bits of.bits h ∙ some_of of.bits w e
  fits_own bits (element at of cells index) w h e = equal_numbers bits of.bits h ∙ some_of of.bits w e
  fits_own bits (link at sign op own joined a b) w h e = equal_numbers bits own h ∙ some_of own w e
  fits_own bits (convert at sign own a) w h e = equal_numbers bits own h ∙ some_of own w e
  fits_own bits (length_of at cells) w h e = equal_numbers bits 64 h ∙ some_of 64 w e
  fits_own bits (asked at question a) w h e = equal_numbers bits (question_width question) h ∙ some_of (question_width question) w e

  -- A number that isn't constant has a width.
  record HasWidth (t : NumTree) : Type 0 where
    width : ℕ
    is : width_of t ≡ Some width

  has_width : (t : NumTree) → varies t ≡ true → HasWidth t
  has_width (number at n) h = absurd (cc (h))
  has_width (read at of path) h = record { width = of.bits; is = refl }
  has_width (element at of cells index) h = record { width = of.bits; is = refl }
  has_width (link at sign op own joined a b) h = record { width = own; is = refl }
  has_width (convert at sign own a) h = record { width = own; is = refl }
  has_width (length_of at cells) h = record { width = 64; is = refl }
  has_width (asked at question a) h = record { width = question_width question; is = refl }

  -- Two widths, which operands of one width tell.
  by_operand : (bits bits' : ℕ) (t t' : NumTree) → fits bits t ≡ true → fits bits' t' ≡ true → width_of t ≡ width_of t' → varies t ≡ true → bits ≡ bits'
  by_operand bits bits' t t' h k e v =
      let w = has_width t v in
      fits_own bits t w.width h w.is ∙ sym (fits_own bits' t' w.width k (sym e ∙ w.is))

  or_cases : (a b : Bool) → (a || b) ≡ true → (a ≡ true) ⊎ (b ≡ true)
  or_cases true b h = inl refl
  or_cases false b h = inr h

  -- An operand is constant, or varies.
  operand_varies : (t : NumTree) → is_whole_number t ≡ true → not (is_constant t) ≡ true → varies t ≡ true
  operand_varies (number at n) h k = absurd (cc (k))
  operand_varies (read at of path) h k = refl
  operand_varies (element at of cells index) h k = refl
  operand_varies (link at sign op own joined a b) h k = h
  operand_varies (convert at sign own a) h k = refl
  operand_varies (length_of at cells) h k = refl
  operand_varies (asked at question a) h k = refl

  -- What holds of an operator that keeps the rules, and of two that are the same.
  record LinkParts (op : Arith) (bits : ℕ) (joined : Bool) (a b : NumTree) : Type 0 where
    left_fits : fits bits a ≡ true
    right_fits : (is_shift op || fits bits b) ≡ true
    part : (not joined || continues op bits a) ≡ true
    whole : (joined || is_whole_number a) ≡ true
    left : well_part c a ≡ true
    right_whole : is_whole_number b ≡ true
    right : well_part c b ≡ true

  link_parts : (at sign : _) (op : Arith) (bits : ℕ) (joined : Bool) (a b : NumTree) → well_part c (link at sign op bits joined a b) ≡ true → LinkParts op bits joined a b
  link_parts at sign op bits joined a b h =
      let p1 = both_true (is_width bits) _ h in
      let p2 = both_true (fits bits a) _ p1.1 in
      let p3 = both_true (is_shift op || fits bits b) _ p2.1 in
      let p4 = both_true (not joined || continues op bits a) _ p3.1 in
      let p5 = both_true (joined || is_whole_number a) _ p4.1 in
      let p6 = both_true (well_part c a) _ p5.1 in
      let p7 = both_true (is_whole_number b) _ p6.1 in
      record { left_fits = p2.0; right_fits = p3.0; part = p4.0; whole = p5.0; left = p6.0; right_whole = p7.0; right = p7.1 }

  record SameParts (op op' : Arith) (bits bits' : ℕ) (joined joined' : Bool) (a a' b b' : NumTree) : Type 0 where
    ops : op ≡ op'
    widths : same_width op bits bits' ≡ true
    joins : joined ≡ joined'
    left : same_num a a' ≡ true
    right : same_num b b' ≡ true

  same_parts : (op op' : Arith) (bits bits' : ℕ) (joined joined' : Bool) (a a' b b' : NumTree)
      → (same_arith op op' && (same_width op bits bits' && (same_truth joined joined' && (same_num a a' && same_num b b')))) ≡ true → SameParts op op' bits bits' joined joined' a a' b b'
  same_parts op op' bits bits' joined joined' a a' b b' h =
      let p1 = both_true (same_arith op op') _ h in
      let p2 = both_true (same_width op bits bits') _ p1.1 in
      let p3 = both_true (same_truth joined joined') _ p2.1 in
      let p4 = both_true (same_num a a') _ p3.1 in
      record { ops = arith_same op op' p1.0; widths = p2.0; joins = truth_same joined joined' p3.0; left = p4.0; right = p4.1 }

  -- The widths of two shifts are compared; those of other operators are told by an operand.
  shift_or : (op : Arith) (bits bits' : ℕ) → same_width op bits bits' ≡ true → (is_shift op ≡ false → bits ≡ bits') → bits ≡ bits'
  shift_or shift_left bits bits' h k = equal_numbers bits bits' h
  shift_or shift_right bits bits' h k = equal_numbers bits bits' h
  shift_or mod_shift_left bits bits' h k = equal_numbers bits bits' h
  shift_or plus bits bits' h k = k refl
  shift_or minus bits bits' h k = k refl
  shift_or times bits bits' h k = k refl
  shift_or divided bits bits' h k = k refl
  shift_or remainder bits bits' h k = k refl
  shift_or bits_and bits bits' h k = k refl
  shift_or bits_or bits bits' h k = k refl
  shift_or bits_xor bits bits' h k = k refl
  shift_or mod_plus bits bits' h k = k refl
  shift_or mod_minus bits bits' h k = k refl
  shift_or mod_times bits bits' h k = k refl
  shift_or sat_plus bits bits' h k = k refl
  shift_or sat_minus bits bits' h k = k refl

  other_side : (x y : Bool) → (x || y) ≡ true → x ≡ false → y ≡ true
  other_side true y h e = absurd (cc (e))
  other_side false y h e = h

  left_varies : (joined : Bool) (a : NumTree) → (joined || is_whole_number a) ≡ true → (if joined then varies a else not (is_constant a)) ≡ true → varies a ≡ true
  left_varies true a h k = k
  left_varies false a h k = operand_varies a h k

  link_widths : (op op' : Arith) (bits bits' : ℕ) (joined joined' : Bool) (a a' b b' : NumTree) → LinkParts op bits joined a b → LinkParts op' bits' joined' a' b' → SameParts op op' bits bits' joined joined' a a' b b'
      → ((if joined then varies a else not (is_constant a)) || not (is_constant b)) ≡ true
      → (varies a ≡ true → width_of a ≡ width_of a') → (varies b ≡ true → width_of b ≡ width_of b') → bits ≡ bits'
  link_widths op op' bits bits' joined joined' a a' b b' p q e v f g =
      shift_or op bits bits' e.widths (λ plain. by_side (or_cases (if joined then varies a else not (is_constant a)) _ v) plain)
    where
      by_side : ((if joined then varies a else not (is_constant a)) ≡ true) ⊎ (not (is_constant b) ≡ true) → is_shift op ≡ false → bits ≡ bits'
      by_side (inl k) plain = let w = left_varies joined a p.whole k in by_operand bits bits' a a' p.left_fits q.left_fits (f w) w
      by_side (inr k) plain =
          let w = operand_varies b p.right_whole k in
          by_operand bits bits' b b' (other_side (is_shift op) (fits bits b) p.right_fits plain) (other_side (is_shift op') (fits bits' b') q.right_fits (ap is_shift (sym e.ops) ∙ plain)) (g w) w

  -- The same numbers that vary have one width.
  same_widths : (t t' : NumTree) → well_part c t ≡ true → well_part c t' ≡ true → same_num t t' ≡ true → varies t ≡ true → width_of t ≡ width_of t'
  same_widths (number at n) t' h k e v = absurd (cc (v))
  same_widths (read at of p) (read at' of' q) h k e v =
      let P : Option Ty → Type 0 = λ ty. is_number of ty ≡ true in
      ap (λ (t : NumType). Some t.bits) (one_number of of' (type_at c q) (subst P (path_type p q e) (both_true (is_range of) _ h).1) (both_true (is_range of') _ k).1)
  same_widths (element at of cells index) (element at' of' cells' index') h k e v =
      let p = both_true (same_num_type of (element_type cells)) _ h in
      let q = both_true (same_num_type of' (element_type cells')) _ k in
      let s = same_elements cells cells' (both_true (well_slice c cells) _ p.1).0 (both_true (well_slice c cells') _ q.1).0 (both_true (same_slice cells cells') _ e).0 in
      ap (λ (t : NumType). Some t.bits) (num_type_same of (element_type cells) p.0 ∙ s ∙ sym (num_type_same of' (element_type cells') q.0))
  same_widths (link at sign op bits joined a b) (link at' sign' op' bits' joined' a' b') h k e v =
      let p = link_parts at sign op bits joined a b h in
      let q = link_parts at' sign' op' bits' joined' a' b' k in
      let s = same_parts op op' bits bits' joined joined' a a' b b' e in
      ap (λ n. Some n) (link_widths op op' bits bits' joined joined' a a' b b' p q s v (same_widths a a' p.left q.left s.left) (same_widths b b' p.right q.right s.right))
  same_widths (convert at sign bits a) (convert at' sign' bits' a') h k e v = ap (λ n. Some n) (equal_numbers bits bits' (both_true (nat_eq bits bits') _ e).0)
  same_widths (length_of at cells) (length_of at' cells') h k e v = refl
  same_widths (asked at p a) (asked at' q a') h k e v = ap (λ x. Some (question_width x)) (question_same p q (both_true (same_question p q) _ e).0)
  same_widths t t' h k e v = absurd (cc (e))

  -- Two operators of one width; nothing is said of other trees.
  abbrev SameBits : NumTree → NumTree → Type 0
  SameBits (link at sign op bits joined a b) (link at' sign' op' bits' joined' a' b') = bits ≡ bits'
  SameBits t t' = Unit {0}

  whole_bits : (t t' : NumTree) → well_part c t ≡ true → well_part c t' ≡ true → same_num t t' ≡ true → is_whole_number t ≡ true → SameBits t t'
  whole_bits (link at sign op bits joined a b) (link at' sign' op' bits' joined' a' b') h k e v =
      some_of bits bits' (same_widths (link at sign op bits joined a b) (link at' sign' op' bits' joined' a' b') h k e v)
  whole_bits t t' h k e v = tt

  part_bits : (op op' : Arith) (bits bits' : ℕ) (t t' : NumTree) → continues op bits t ≡ true → continues op' bits' t' ≡ true → bits ≡ bits' → SameBits t t'
  part_bits op op' bits bits' (link at sign own n joined a b) (link at' sign' own' n' joined' a' b') h k e =
      sym (equal_numbers bits n (both_true (same_arith op own) _ h).1) ∙ e ∙ equal_numbers bits' n' (both_true (same_arith op' own') _ k).1
  part_bits op op' bits bits' t t' h k e = tt

  left_bits : (op op' : Arith) (bits bits' : ℕ) (joined joined' : Bool) (a a' b b' : NumTree) → joined ≡ joined' → LinkParts op bits joined a b → LinkParts op' bits' joined' a' b' → same_num a a' ≡ true → bits ≡ bits' → SameBits a a'
  left_bits op op' bits bits' true true a a' b b' j p q e w = part_bits op op' bits bits' a a' p.part q.part w
  left_bits op op' bits bits' false false a a' b b' j p q e w = whole_bits a a' p.left q.left e p.whole
  left_bits op op' bits bits' true false a a' b b' j p q e w = absurd (cc (j))
  left_bits op op' bits bits' false true a a' b b' j p q e w = absurd (cc (j))

  mutual
    value_same : (s : State) (t t' : NumTree) → well_part c t ≡ true → well_part c t' ≡ true → same_num t t' ≡ true → SameBits t t' → value s t ≡ value s t'
    value_same s (number at n) (number at' n') h k e w = ap (λ m. Some m) (equal_numbers n n' e)
    value_same s (read at of p) (read at' of' q) h k e w = ap s.number_at (path_same p q e)
    value_same s (element at of cells index) (element at' of' cells' index') h k e w =
        let p = both_true (same_num_type of (element_type cells)) _ h in
        let q = both_true (same_num_type of' (element_type cells')) _ k in
        let p' = both_true (well_slice c cells) _ p.1 in
        let q' = both_true (well_slice c cells') _ q.1 in
        let p2 = both_true (is_whole_number index) _ p'.1 in
        let q2 = both_true (is_whole_number index') _ q'.1 in
        let r = both_true (same_slice cells cells') _ e in
        let x = span_same s cells cells' p'.0 q'.0 r.0 in
        let y = value_same s index index' p2.1 q2.1 r.1 (whole_bits index index' p2.1 q2.1 r.1 p2.0) in
        λ i. option_and_then (λ xs. option_and_then (element_of s xs) (y i)) (x i)
    value_same s (link at sign op bits joined a b) (link at' sign' op' bits' joined' a' b') h k e w =
        let p = link_parts at sign op bits joined a b h in
        let q = link_parts at' sign' op' bits' joined' a' b' k in
        let r = same_parts op op' bits bits' joined joined' a a' b b' e in
        let o = r.ops in
        let x = value_same s a a' p.left q.left r.left (left_bits op op' bits bits' joined joined' a a' b b' r.joins p q r.left w) in
        let y = value_same s b b' p.right q.right r.right (whole_bits b b' p.right q.right r.right p.right_whole) in
        λ i. option_and_then (λ m. option_and_then (applied (o i) (w i) m) (y i)) (x i)
    value_same s (convert at sign bits a) (convert at' sign' bits' a') h k e w =
        let p = both_true (is_whole_number a) _ (both_true (is_width bits) _ h).1 in
        let q = both_true (is_whole_number a') _ (both_true (is_width bits') _ k).1 in
        let r = both_true (nat_eq bits bits') _ e in
        let n = equal_numbers bits bits' r.0 in
        let x = value_same s a a' p.1 q.1 r.1 (whole_bits a a' p.1 q.1 r.1 p.0) in
        λ i. option_and_then (fitted (n i)) (x i)
    value_same s (length_of at cells) (length_of at' cells') h k e w =
        let x = span_same s cells cells' h k e in
        λ i. option_map (λ (xs : Span). xs.count) (x i)
    value_same s (asked at q a) (asked at' q' a') h k e w =
        let r = both_true (same_question q q') _ e in
        let x = question_same q q' r.0 in
        let y = equal_numbers a a' r.1 in
        λ i. option_and_then (told (x i)) (io_buffer s (y i))
    value_same s t t' h k e w = absurd (cc (e))

    span_same : (s : State) (a b : SliceTree) → well_slice c a ≡ true → well_slice c b ≡ true → same_slice a b ≡ true → span_of s a ≡ span_of s b
    span_same s (slice at bits p) (slice at' bits' q) h k e = ap s.span_at (path_same p q e)
    span_same s (array at of count p) (array at' of' count' q) h k e = ap s.span_at (path_same p q e)
    span_same s (cut at a from to) (cut at' b from' to') h k e =
        let p = both_true (well_slice c a) _ (both_true (is_unrefined (element_type a)) _ h).1 in
        let q = both_true (well_slice c b) _ (both_true (is_unrefined (element_type b)) _ k).1 in
        let p' = both_true (well_end c from) _ p.1 in
        let q' = both_true (well_end c from') _ q.1 in
        let r = both_true (same_slice a b) _ e in
        let r' = both_true (same_end from from') _ r.1 in
        let x = span_same s a b p.0 q.0 r.0 in
        λ i. option_and_then (λ xs. option_and_then (λ n. option_and_then (part_of xs n) (end_same s to to' p'.1 q'.1 r'.1 xs.count i)) (end_same s from from' p'.0 q'.0 r'.0 0 i)) (x i)
    span_same s a b h k e = absurd (cc (e))

    end_same : (s : State) (a b : EndTree) → well_end c a ≡ true → well_end c b ≡ true → same_end a b ≡ true → (default : ℕ) → end_value s default a ≡ end_value s default b
    end_same s absent absent h k e default = refl
    end_same s (present a) (present b) h k e default =
        let p = both_true (is_whole_number a) _ h in
        let q = both_true (is_whole_number b) _ k in
        value_same s a b p.1 q.1 e (whole_bits a b p.1 q.1 e p.0)
    end_same s absent (present b) h k e default = absurd (cc (e))
    end_same s (present a) absent h k e default = absurd (cc (e))

  -- The same numbers have the same value.
  pub number_same : (s : State) (t t' : NumTree) → well_num c t ≡ true → well_num c t' ≡ true → same_num t t' ≡ true → value s t ≡ value s t'
  number_same s t t' h k e =
      let p = both_true (is_whole_number t) _ h in
      let q = both_true (is_whole_number t') _ k in
      value_same s t t' p.1 q.1 e (whole_bits t t' p.1 q.1 e p.0)

  pub slices_same : (s : State) (a b : SliceTree) → well_slice c a ≡ true → well_slice c b ≡ true → same_slice a b ≡ true → span_of s a ≡ span_of s b
  slices_same s a b h k e = span_same s a b h k e

  state_same : (s : State) (a b : StatusTree) → same_state a b ≡ true → status_value s a ≡ status_value s b
  state_same s (status at m) (status at' n) e = ap (λ k. Some k) (equal_numbers m n e)
  state_same s (held at p) (held at' q) e = ap s.status_at (path_same p q e)
  state_same s (status at m) (held at' q) e = absurd (cc (e))
  state_same s (status at m) no_status e = absurd (cc (e))
  state_same s (held at p) (status at' n) e = absurd (cc (e))
  state_same s (held at p) no_status e = absurd (cc (e))
  state_same s no_status b e = absurd (cc (e))

  -- The same conditions have the same truth value.
  pub cond_same : (s : State) (a b : CondTree) → well_cond c a ≡ true → well_cond c b ≡ true → same_cond a b ≡ true → truth_of s a ≡ truth_of s b
  cond_same s (truth at x) (truth at' y) h k e = ap (λ t. Some t) (truth_same x y e)
  cond_same s (flag at p) (flag at' q) h k e = ap s.flag_at (path_same p q e)
  cond_same s (compare at sign a op b) (compare at' sign' a' op' b') h k e =
      let p = both_true (well_num c a) (well_num c b) (both_true (fit_together a b (width_of a) (width_of b)) _ h).1 in
      let q = both_true (well_num c a') (well_num c b') (both_true (fit_together a' b' (width_of a') (width_of b')) _ k).1 in
      let r = both_true (same_order op op') _ e in
      let r' = both_true (same_num a a') _ r.1 in
      let o = order_same op op' r.0 in
      let x = number_same s a a' p.0 q.0 r'.0 in
      let y = number_same s b b' p.1 q.1 r'.1 in
      λ i. option_and_then (λ m. option_map (compares (o i) m) (y i)) (x i)
  cond_same s (same_status at sign a one b) (same_status at' sign' a' one' b') h k e =
      let r = both_true (same_truth one one') _ e in
      let r' = both_true (same_state a a') _ r.1 in
      let o = truth_same one one' r.0 in
      let x = state_same s a a' r'.0 in
      let y = state_same s b b' r'.1 in
      λ i. option_and_then (λ m. option_map (λ n. same_truth (o i) (nat_eq m n)) (y i)) (x i)
  cond_same s (junction at both joined a b) (junction at' both' joined' a' b') h k e =
      let p = both_true (well_cond c a) _ h in
      let q = both_true (well_cond c a') _ k in
      let r = both_true (same_truth both both') _ e in
      let r' = both_true (same_truth joined joined') _ r.1 in
      let r2 = both_true (same_cond a a') _ r'.1 in
      let o = truth_same both both' r.0 in
      let x = cond_same s a a' p.0 q.0 r2.0 in
      let y = cond_same s b b' p.1 q.1 r2.1 in
      λ i. option_and_then (λ t. option_map (λ u. if o i then t && u else t || u) (y i)) (x i)
  cond_same s (negation at a) (negation at' a') h k e = ap (λ t. option_map not t) (cond_same s a a' h k e)
  cond_same s (closed at a) (closed at' a') h k e = ap (λ n. option_map (λ (b : Buffer). b.closed) (io_buffer s n)) (equal_numbers a a' e)
  cond_same s (has_category at a category) (has_category at' a' category') h k e =
      let r = both_true (same_category category category') _ e in
      let o = category_same category category' r.0 in
      let x = state_same s a a' r.1 in
      λ i. option_map (λ n. same_category (o i) (category_of (s.status_text n))) (x i)
  cond_same s a b h k e = absurd (cc (e))
