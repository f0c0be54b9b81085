-- The tree of an operator is one of what the operator means, where those of its operands are: shifts, comparisons, and with
-- them all operators.
use Rattle.std.proofs.Common.{◌≡◌, ℕ, ◌^◌, Bool, true, false, not, ◌||◌, List, [], ◌∷◌, Option, Some, None, refl, sym, ◌∙◌, subst, nat_lt}
use Rattle.std.specs.Prelude.{if◌then◌else◌, is_some}
use Rattle.wf_text.specs.declared.place.Place.{Place}
use Rattle.wf_base.specs.declared.widths.Width.{Width}
use Rattle.wf_base.specs.BaseTable.{bits_of}
use Rattle.wf_ast.specs.declared.operators.Op.{Op}
use Rattle.wf_ast.specs.declared.operators.Op.TheVariants as ops
use Rattle.wf_ast.specs.declared.types.Ty.TheVariants as types
use Rattle.wf_ast.specs.TypedTree.{Arith, plus, minus, times, divided, remainder, shift_left, shift_right, bits_and, bits_or, bits_xor, mod_plus, mod_minus, mod_times, mod_shift_left, sat_plus, sat_minus, Order, less, at_most, equal, differs, at_least, greater, NumTree, number, read, element, link, convert, length_of, asked, compare, same_status, ValueTree, numeric, logical}
use Rattle.wf_ast.specs.TypedTrees.{arithmetic, ordering, operator_kind, num_in, status_in, num_chain, chain_of, comparison, first_sign}
use Rattle.wf_ast.specs.WellTyped.{Context, fits, is_shift, is_constant, is_whole_number, well_part, well_num, well_status, width_of, fit_together}
use Rattle.wf_ast.specs.OperatorForms.{repeats}
use Rattle.wf_types_rules.specs.declared.meanings.Meaning.{Meaning}
use Rattle.wf_types_rules.specs.declared.meanings.Meaning.TheVariants as meanings
use Rattle.wf_types_rules.specs.declared.meanings.Operand.{Operand}
use Rattle.wf_types_rules.specs.Meanings as meant
use Rattle.wf_types_rules.specs.Meanings.{constant_number}
use Rattle.wf_types_rules.specs.Operands.{first_not, not_of_one_width, not_shifted, shift_takes, not_compared, common_width, fits_width, bits_in, width_given, constant_value, constants_in, constant_of, number_in, computed, meaning_of_operator}
use Rattle.wf_typed_tree.specs.ElaboratedExprs.{type_meant, number_or}
use Rattle.wf_typed_tree.specs.MeaningTrees.{IsNumber, IsCondition, IsStatus, HasMeaning}
use Rattle.wf_typed_tree.proofs.NumberLemmas.{both, and-true, or-left, equal-numbers, width-is, IsWhole, whole-number}
use Rattle.wf_typed_tree.proofs.OperandLaws.{Matched, Taken, taken-parts, first-holds, IsOperand, operands-of, operand-of, fits-own, all-fit, junction-means}
use Rattle.wf_typed_tree.proofs.OperatorLaws.{link-well, operand-tree, one-varies, any_vary, numbers-in, constant-means, number-in, front-of, constant-low, FirstBelow, arithmetic-means}

-- Shifts.
pub record ShiftParts (o q : Operand) : Type 0 where
  pub left : meant.is_number o.of ≡ true
  pub right : meant.is_number q.of ≡ true

pub shift-parts : (o q : Operand) → not_shifted (o ∷ q ∷ []) ≡ None → ShiftParts o q
shift-parts o q h = by_tests (meant.is_number o.of) (shift_takes o.of q.of) refl refl h
  where
    by_tests : (a b : Bool) → meant.is_number o.of ≡ a → shift_takes o.of q.of ≡ b → (if not a then Some o.at else if b then None else Some q.at) ≡ None → ShiftParts o q
    by_tests true true e f k = record { left = e; right = (both (meant.is_number q.of) (if is_some (meant.width_of o.of) then true else meant.is_constant q.of) f).0 }
    by_tests true false e f k = absurd (cc k)
    by_tests false b e f k = absurd (cc k)

pub whole-tree : (c : Context) (t : ValueTree) → IsWhole c t → (is_whole_number (num_in t) ≡ true) × (well_part c (num_in t) ≡ true)
whole-tree c t h =
    let P : ValueTree → Type 0 = λ u. (is_whole_number (num_in u) ≡ true) × (well_part c (num_in u) ≡ true) in subst P (sym h.is) (h.whole, h.well)

or-shorter : (p q : Bool) → (p || (q || false)) ≡ true → (p || q) ≡ true
or-shorter true q h = refl
or-shorter false true h = refl
or-shorter false false h = h

shift-link : (c : Context) (at sign : Place) (op : Arith) (w : Width) (t u : ValueTree) → is_shift op ≡ true → IsOperand c (bits_of w) t → IsWhole c u
    → any_vary (t ∷ u ∷ []) ≡ true → IsNumber c (bits_of w) (numeric (link at sign op (bits_of w) false (num_in t) (num_in u)))
shift-link c at sign op w t u shift left right varying =
    let a = operand-tree c (bits_of w) t left in
    let b = whole-tree c u right in
    record {
      tree = link at sign op (bits_of w) false (num_in t) (num_in u);
      is = refl;
      width = refl;
      varies = or-shorter (not (is_constant (num_in t))) (not (is_constant (num_in u))) varying;
      well = link-well c at sign op (bits_of w) false (num_in t) (num_in u) (width-is w) a.0 (or-left (is_shift op) (fits (bits_of w) (num_in u)) shift) refl a.1 a.2 b.0 b.1;
    }

shift-tree : (c : Context) (at : Place) (signs : List Place) (op : Arith) (w : Width) (t u : ValueTree) → is_shift op ≡ true → IsOperand c (bits_of w) t → IsWhole c u
    → any_vary (t ∷ u ∷ []) ≡ true → IsNumber c (bits_of w) (numeric (num_chain at op (bits_of w) false (num_in t) (u ∷ []) signs))
shift-tree c at [] op w t u shift left right varying = shift-link c at at op w t u shift left right varying
shift-tree c at (sign ∷ signs) op w t u shift left right varying = shift-link c at sign op w t u shift left right varying

pub shift-means : (c : Context) (at : Place) (signs : List Place) (op : Arith) (o q : Operand) (t u : ValueTree) (m : Meaning)
    → is_shift op ≡ true → meaning_of_operator (arithmetic op) (o ∷ q ∷ []) ≡ Some m → Matched c (o ∷ q ∷ []) (t ∷ u ∷ [])
    → HasMeaning c m (number_or at (constant_number m) (chain_of at signs (type_meant (Some m)) (arithmetic op) (t ∷ u ∷ [])))
shift-means c at signs op o q t u m shift h k = by_numbers (constants_in all) refl parts.gives
  where
    all : List Operand
    all = o ∷ q ∷ []

    parts : Taken (arithmetic op) all m
    parts = taken-parts (arithmetic op) all m h

    operands : ShiftParts o q
    operands =
        let P : Bool → Type 0 = λ b. (if b then not_shifted all else not_of_one_width None all) ≡ None in shift-parts o q (subst P shift parts.taken)

    width : width_given op all ≡ meant.width_of o.of
    width = rw shift refl

    by_numbers : (ns : Option (List ℕ)) → constants_in all ≡ ns → computed op all ns ≡ Some m
        → HasMeaning c m (number_or at (constant_number m) (chain_of at signs (type_meant (Some m)) (arithmetic op) (t ∷ u ∷ [])))
    by_numbers (Some ns) e f =
        let front = front-of o (q ∷ []) ns e in
        let low : nat_lt front.first (2 ^ bits_in (meant.width_of o.of)) ≡ true = constant-low c o.of t front.first front.value k.0 in
        let L : List ℕ → Type 0 = λ ms. FirstBelow (bits_in (meant.width_of o.of)) ms in
        let P : Option Width → Type 0 = λ w. constant_of w (constant_value op (bits_in w) ns) ≡ Some m in
        constant-means c at (meant.width_of o.of) op ns m (chain_of at signs (type_meant (Some m)) (arithmetic op) (t ∷ u ∷ [])) (subst L front.is low) (subst P width f)
    by_numbers None e f =
        let P : Option Width → Type 0 = λ w. number_in w ≡ Some m in
        let it = number-in (meant.width_of o.of) m (subst P width f) in
        let left = operand-of c it.of o.of t (fits-own it.of o.of operands.left it.is) k.0 in
        let right = whole-number c q.of u operands.right k.1.0 in
        let varying = one-varies c all (t ∷ u ∷ []) (operands.left, (operands.right, tt)) e k in
        let Q : Meaning → Type 0 = λ i. HasMeaning c i (number_or at (constant_number i) (chain_of at signs (type_meant (Some i)) (arithmetic op) (t ∷ u ∷ []))) in
        subst Q it.gives (shift-tree c at signs op it.of t u shift left right varying)

-- Comparisons of numbers of one width.
abbrev HasOnly : Option ℕ → (bits : ℕ) → Type 0
HasOnly width bits = (k : ℕ) → width ≡ Some k → k ≡ bits

only-width : (t : NumTree) (bits : ℕ) → fits bits t ≡ true → HasOnly (width_of t) bits
only-width (number at n) bits h k e = absurd (cc e)
only-width (read at of path) bits h k e = let same : of.bits ≡ k = cc e in sym same ∙ sym (equal-numbers bits of.bits h)
only-width (element at of cells i) bits h k e = let same : of.bits ≡ k = cc e in sym same ∙ sym (equal-numbers bits of.bits h)
only-width (link at sign op own joined a b) bits h k e = let same : own ≡ k = cc e in sym same ∙ sym (equal-numbers bits own h)
only-width (convert at sign own a) bits h k e = let same : own ≡ k = cc e in sym same ∙ sym (equal-numbers bits own h)
only-width (length_of at cells) bits h k e = let same : 64 ≡ k = cc e in sym same ∙ sym (equal-numbers bits 64 h)
only-width (asked at question a) bits h k e = let own = equal-numbers bits _ h in cc (e, own)

fit-both : (a b : NumTree) (v w : Option ℕ) (bits : ℕ) → HasOnly v bits → HasOnly w bits → fits bits a ≡ true → fits bits b ≡ true → fit_together a b v w ≡ true
fit-both a b None None bits v w f g = refl
fit-both a b None (Some k) bits v w f g = let e : k ≡ bits = w k refl in rw e f
fit-both a b (Some k) w bits v x f g = let e : k ≡ bits = v k refl in rw e g

no-width : (o q : Operand) → common_width (o ∷ q ∷ []) ≡ None → (meant.width_of o.of ≡ None) × (meant.width_of q.of ≡ None)
no-width o q h = by_widths (meant.width_of o.of) (meant.width_of q.of) refl refl
  where
    by_widths : (v w : Option Width) → meant.width_of o.of ≡ v → meant.width_of q.of ≡ w → (meant.width_of o.of ≡ None) × (meant.width_of q.of ≡ None)
    by_widths None None e f = (e, f)
    by_widths None (Some w) e f = let some : common_width (o ∷ q ∷ []) ≡ Some w = rw (e, f) refl in absurd (cc (h, some))
    by_widths (Some v) w e f = let some : common_width (o ∷ q ∷ []) ≡ Some v = rw e refl in absurd (cc (h, some))

plain-tree : (c : Context) (m : Meaning) (t : ValueTree) → meant.is_number m ≡ true → meant.width_of m ≡ None → HasMeaning c m t → width_of (num_in t) ≡ None
plain-tree c (meanings.Constant width n) t h e k = let P : ValueTree → Type 0 = λ u. width_of (num_in u) ≡ None in subst P (sym k.is) refl
plain-tree c (meanings.Typed (types.Num width lo hi)) t h e k = absurd (cc e)
plain-tree c m t h e k = absurd (cc h)

numbers-fit : (c : Context) (o q : Operand) (t u : ValueTree) → not_of_one_width None (o ∷ q ∷ []) ≡ None → first_not (fits_width (common_width (o ∷ q ∷ []))) (o ∷ q ∷ []) ≡ None
    → Matched c (o ∷ q ∷ []) (t ∷ u ∷ []) → fit_together (num_in t) (num_in u) (width_of (num_in t)) (width_of (num_in u)) ≡ true
numbers-fit c o q t u one fitting k = by_width (common_width (o ∷ q ∷ [])) refl
  where
    by_width : (w : Option Width) → common_width (o ∷ q ∷ []) ≡ w → fit_together (num_in t) (num_in u) (width_of (num_in t)) (width_of (num_in u)) ≡ true
    by_width (Some w) e =
        let F : Option Width → Type 0 = λ v. first_not (fits_width v) (o ∷ q ∷ []) ≡ None in
        let trees = operands-of c w (o ∷ q ∷ []) (t ∷ u ∷ []) (all-fit w (o ∷ q ∷ []) one e (subst F e fitting)) k in
        let a = operand-tree c (bits_of w) t trees.0 in
        let b = operand-tree c (bits_of w) u trees.1.0 in
        fit-both (num_in t) (num_in u) (width_of (num_in t)) (width_of (num_in u)) (bits_of w) (only-width (num_in t) (bits_of w) a.0) (only-width (num_in u) (bits_of w) b.0) a.0 b.0
    by_width None e =
        let none = no-width o q e in
        let numbers = numbers-in None (o ∷ q ∷ []) one in
        let a = plain-tree c o.of t numbers.0 none.0 k.0 in
        let b = plain-tree c q.of u numbers.1.0 none.1 k.1.0 in
        rw (a, b) refl

number-comparison : (at sign : Place) (op : Order) (a : NumTree) (u : ValueTree) → comparison at sign op (numeric a) u ≡ logical (compare at sign a op (num_in u))
number-comparison at sign less a u = refl
number-comparison at sign at_most a u = refl
number-comparison at sign equal a u = refl
number-comparison at sign differs a u = refl
number-comparison at sign at_least a u = refl
number-comparison at sign greater a u = refl

numbers-compared : (c : Context) (at sign : Place) (op : Order) (o q : Operand) (t u : ValueTree) → not_of_one_width None (o ∷ q ∷ []) ≡ None
    → first_not (fits_width (common_width (o ∷ q ∷ []))) (o ∷ q ∷ []) ≡ None → Matched c (o ∷ q ∷ []) (t ∷ u ∷ []) → IsCondition c (comparison at sign op t u)
numbers-compared c at sign op o q t u one fitting k =
    let numbers = numbers-in None (o ∷ q ∷ []) one in
    let left = whole-number c o.of t numbers.0 k.0 in
    let right = whole-number c q.of u numbers.1.0 k.1.0 in
    let a = whole-tree c t left in
    let b = whole-tree c u right in
    let fit = numbers-fit c o q t u one fitting k in
    let C : ValueTree → Type 0 = λ v. comparison at sign op v u ≡ logical (compare at sign (num_in v) op (num_in u)) in
    record {
      tree = compare at sign (num_in t) op (num_in u);
      is = subst C (sym left.is) (number-comparison at sign op left.tree u);
      well = and-true (fit_together (num_in t) (num_in u) (width_of (num_in t)) (width_of (num_in u))) _ fit
          (and-true (well_num c (num_in t)) (well_num c (num_in u)) (and-true (is_whole_number (num_in t)) (well_part c (num_in t)) a.0 a.1) (and-true (is_whole_number (num_in u)) (well_part c (num_in u)) b.0 b.1));
    }

-- Comparisons of statuses.
pub status-of : (c : Context) (m : Meaning) (t : ValueTree) → meant.is_status m ≡ true → HasMeaning c m t → IsStatus c t
status-of c (meanings.Typed types.Status) t h k = k
status-of c m t h k = absurd (cc h)

pub status-well : (c : Context) (t : ValueTree) → IsStatus c t → well_status c (status_in t) ≡ true
status-well c t k = let P : ValueTree → Type 0 = λ u. well_status c (status_in u) ≡ true in subst P (sym k.is) k.well

same-compared : (c : Context) (at sign : Place) (t u : ValueTree) → IsStatus c t → IsStatus c u → IsCondition c (comparison at sign equal t u)
same-compared c at sign t u a b =
    let P : ValueTree → Type 0 = λ v. IsCondition c (comparison at sign equal v u) in
    subst P (sym a.is) (record { tree = same_status at sign a.tree true (status_in u); is = refl; well = and-true (well_status c a.tree) (well_status c (status_in u)) a.well (status-well c u b) })

others-compared : (c : Context) (at sign : Place) (t u : ValueTree) → IsStatus c t → IsStatus c u → IsCondition c (comparison at sign differs t u)
others-compared c at sign t u a b =
    let P : ValueTree → Type 0 = λ v. IsCondition c (comparison at sign differs v u) in
    subst P (sym a.is) (record { tree = same_status at sign a.tree false (status_in u); is = refl; well = and-true (well_status c a.tree) (well_status c (status_in u)) a.well (status-well c u b) })

-- `==` and `<>` compare both.
either-compared : (c : Context) (at sign : Place) (op : Order) (o q : Operand) (t u : ValueTree) → (IsStatus c t → IsStatus c u → IsCondition c (comparison at sign op t u))
    → not_compared (o ∷ q ∷ []) ≡ None → first_not (fits_width (common_width (o ∷ q ∷ []))) (o ∷ q ∷ []) ≡ None → Matched c (o ∷ q ∷ []) (t ∷ u ∷ [])
    → IsCondition c (comparison at sign op t u)
either-compared c at sign op o q t u of_statuses taken fitting k = by_first (meant.is_status o.of) refl taken
  where
    by_first : (b : Bool) → meant.is_status o.of ≡ b → (if b then first_not meant.is_status (q ∷ []) else not_of_one_width None (o ∷ q ∷ [])) ≡ None
        → IsCondition c (comparison at sign op t u)
    by_first true e h = of_statuses (status-of c o.of t e k.0) (status-of c q.of u (first-holds meant.is_status q [] h).0 k.1.0)
    by_first false e h = numbers-compared c at sign op o q t u h fitting k

compared : (c : Context) (at sign : Place) (op : Order) (o q : Operand) (t u : ValueTree) (m : Meaning) → Taken (ordering op) (o ∷ q ∷ []) m
    → Matched c (o ∷ q ∷ []) (t ∷ u ∷ []) → IsCondition c (comparison at sign op t u)
compared c at sign less o q t u m p k = numbers-compared c at sign less o q t u p.taken p.fitting k
compared c at sign at_most o q t u m p k = numbers-compared c at sign at_most o q t u p.taken p.fitting k
compared c at sign equal o q t u m p k = either-compared c at sign equal o q t u (same-compared c at sign t u) p.taken p.fitting k
compared c at sign differs o q t u m p k = either-compared c at sign differs o q t u (others-compared c at sign t u) p.taken p.fitting k
compared c at sign at_least o q t u m p k = numbers-compared c at sign at_least o q t u p.taken p.fitting k
compared c at sign greater o q t u m p k = numbers-compared c at sign greater o q t u p.taken p.fitting k

comparison-means : (c : Context) (at : Place) (signs : List Place) (op : Order) (o q : Operand) (t u : ValueTree) (m : Meaning)
    → meaning_of_operator (ordering op) (o ∷ q ∷ []) ≡ Some m → Matched c (o ∷ q ∷ []) (t ∷ u ∷ [])
    → HasMeaning c m (number_or at (constant_number m) (chain_of at signs (type_meant (Some m)) (ordering op) (t ∷ u ∷ [])))
comparison-means c at signs op o q t u m h k =
    let p = taken-parts (ordering op) (o ∷ q ∷ []) m h in
    let is : meanings.Typed types.Flag ≡ m = cc p.gives in
    let P : Meaning → Type 0 = λ i. HasMeaning c i (number_or at (constant_number i) (chain_of at signs (type_meant (Some i)) (ordering op) (t ∷ u ∷ []))) in
    subst P is (compared c at (first_sign at signs) op o q t u m p k)

-- So many operands may stand with an operator, after its first.
abbrev pub is_row : Op → List Operand → Bool
is_row op [] = false
is_row op (q ∷ []) = true
is_row op (q ∷ r ∷ os) = repeats op

pub operator-means : (c : Context) (at : Place) (signs : List Place) (op : Op) (o : Operand) (os : List Operand) (t : ValueTree) (ts : List ValueTree) (m : Meaning)
    → is_row op os ≡ true → meaning_of_operator (operator_kind op) (o ∷ os) ≡ Some m → Matched c (o ∷ os) (t ∷ ts)
    → HasMeaning c m (number_or at (constant_number m) (chain_of at signs (type_meant (Some m)) (operator_kind op) (t ∷ ts)))
operator-means c at signs op o [] t ts m row h k = absurd (cc row)
operator-means c at signs op o (q ∷ os) t [] m row h k = absurd k.1
operator-means c at signs ops.Add o (q ∷ os) t (u ∷ ts) m row h k = arithmetic-means c at signs plus o q os t u ts m refl h k
operator-means c at signs ops.Mul o (q ∷ os) t (u ∷ ts) m row h k = arithmetic-means c at signs times o q os t u ts m refl h k
operator-means c at signs ops.BitAnd o (q ∷ os) t (u ∷ ts) m row h k = arithmetic-means c at signs bits_and o q os t u ts m refl h k
operator-means c at signs ops.BitOr o (q ∷ os) t (u ∷ ts) m row h k = arithmetic-means c at signs bits_or o q os t u ts m refl h k
operator-means c at signs ops.BitXor o (q ∷ os) t (u ∷ ts) m row h k = arithmetic-means c at signs bits_xor o q os t u ts m refl h k
operator-means c at signs ops.Sub o (q ∷ os) t (u ∷ ts) m row h k = arithmetic-means c at signs minus o q os t u ts m refl h k
operator-means c at signs ops.Div o (q ∷ os) t (u ∷ ts) m row h k = arithmetic-means c at signs divided o q os t u ts m refl h k
operator-means c at signs ops.Rem o (q ∷ os) t (u ∷ ts) m row h k = arithmetic-means c at signs remainder o q os t u ts m refl h k
operator-means c at signs ops.ModAdd o (q ∷ os) t (u ∷ ts) m row h k = arithmetic-means c at signs mod_plus o q os t u ts m refl h k
operator-means c at signs ops.ModSub o (q ∷ os) t (u ∷ ts) m row h k = arithmetic-means c at signs mod_minus o q os t u ts m refl h k
operator-means c at signs ops.ModMul o (q ∷ os) t (u ∷ ts) m row h k = arithmetic-means c at signs mod_times o q os t u ts m refl h k
operator-means c at signs ops.SatAdd o (q ∷ os) t (u ∷ ts) m row h k = arithmetic-means c at signs sat_plus o q os t u ts m refl h k
operator-means c at signs ops.SatSub o (q ∷ os) t (u ∷ ts) m row h k = arithmetic-means c at signs sat_minus o q os t u ts m refl h k
operator-means c at signs ops.Shl o (q ∷ []) t (u ∷ []) m row h k = shift-means c at signs shift_left o q t u m refl h k
operator-means c at signs ops.Shr o (q ∷ []) t (u ∷ []) m row h k = shift-means c at signs shift_right o q t u m refl h k
operator-means c at signs ops.ModShl o (q ∷ []) t (u ∷ []) m row h k = shift-means c at signs mod_shift_left o q t u m refl h k
operator-means c at signs ops.Same o (q ∷ []) t (u ∷ []) m row h k = comparison-means c at signs equal o q t u m h k
operator-means c at signs ops.Differs o (q ∷ []) t (u ∷ []) m row h k = comparison-means c at signs differs o q t u m h k
operator-means c at signs ops.Less o (q ∷ []) t (u ∷ []) m row h k = comparison-means c at signs less o q t u m h k
operator-means c at signs ops.LessOrSame o (q ∷ []) t (u ∷ []) m row h k = comparison-means c at signs at_most o q t u m h k
operator-means c at signs ops.Greater o (q ∷ []) t (u ∷ []) m row h k = comparison-means c at signs greater o q t u m h k
operator-means c at signs ops.GreaterOrSame o (q ∷ []) t (u ∷ []) m row h k = comparison-means c at signs at_least o q t u m h k
operator-means c at signs ops.And o (q ∷ os) t (u ∷ ts) m row h k = junction-means c at signs true (o ∷ q ∷ os) t (u ∷ ts) m h k
operator-means c at signs ops.Or o (q ∷ os) t (u ∷ ts) m row h k = junction-means c at signs false (o ∷ q ∷ os) t (u ∷ ts) m h k
operator-means c at signs op o (q ∷ []) t (u ∷ v ∷ ts) m row h k = absurd k.1.1
operator-means c at signs op o (q ∷ r ∷ os) t (u ∷ ts) m row h k = absurd (cc row)
