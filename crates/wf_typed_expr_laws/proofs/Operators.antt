-- What operators take and give.
use Rattle.std.proofs.Common.{◌≡◌, ◌⊎◌, inl, inr, ℕ, suc, ◌<◌, ◌^◌, Bool, true, false, if◌then◌else◌, List, [], ◌∷◌, map, Option, None, Some, nat_lt, refl, sym, ap, ◌∙◌, subst, arith}
use Rattle.std.specs.List.{AllByRecursion}
use Rattle.std.proofs.lemmas.Bool.Decides.{nat_tests}
use Rattle.wf_base.specs.declared.widths.Width.{Width}
use Rattle.wf_base.specs.BaseTable.{bits_of}
use Rattle.wf_ast.specs.declared.types.Ty.TheVariants as types
use Rattle.wf_ast.specs.TypedTree.{Arith, Order, less, at_most, equal, differs, at_least, greater}
use Rattle.wf_ast.specs.TypedTrees.{OperatorKind, arithmetic, ordering, joining}
use Rattle.wf_ast.specs.WellTyped.{is_shift}
use Rattle.wf_types_rules.specs.declared.meanings.Meaning.{Meaning}
use Rattle.wf_types_rules.specs.declared.meanings.Meaning.TheVariants as meanings
use Rattle.wf_types_rules.specs.declared.meanings.Operand.{Operand}
use Rattle.wf_types_rules.specs.Meanings as meant
use Rattle.wf_types_rules.specs.Meanings.{is_number, is_flag, is_status, is_constant, constant_number}
use Rattle.wf_types_rules.specs.Operands.{first_not, first_of, not_of_one_width, not_shifted, fits_width, common_width, left_width, bits_in, width_given, constant_value, with_number, constants_in, constant_of, number_in, computed, meaning_of_operator}
use Rattle.wf_typed_tree.proofs.NumberLemmas.{same-bits}
use Rattle.wf_typed_tree.proofs.OperandLaws.{Taken, taken-parts, first-holds, fits_in, AllFit, one-width-parts, all-fit}
use Rattle.wf_typed_tree.proofs.OperatorLaws.{number-in}
use Rattle.wf_typed_tree.proofs.AllOperators.{shift-parts}
use Rattle.wf_typed_expr_laws.specs.Typing.{IsOfWidth, IsFree, AreOfOneWidth, Vary, AreConstants, Gives, a_number, a_constant, a_shifted_number, a_shifted_constant, a_comparison, one_status, a_junction}

abbrev pub meanings_in : List Operand → List Meaning
meanings_in os = map (λ o. o.of) os

-- ---- widths

below-is : (a b : ℕ) → nat_lt a b ≡ true → a < b
below-is a b h = grind (arith, nat_tests, h)

of-width : (w : Width) (m : Meaning) → fits_in w m ≡ true → IsOfWidth w m
of-width w (meanings.Constant None n) h = below-is n (2 ^ bits_of w) h
of-width w (meanings.Constant (Some v) n) h = sym (same-bits w v h)
of-width w (meanings.Typed (types.Num v lo hi)) h = sym (same-bits w v h)
of-width w m h = absurd (cc h)

all-of-width : (w : Width) (os : List Operand) → AllFit w os → AllByRecursion (IsOfWidth w) (meanings_in os)
all-of-width w [] a = tt
all-of-width w (o ∷ os) a = (of-width w o.of a.0, all-of-width w os a.1)

is-free : (m : Meaning) → is_number m ≡ true → meant.width_of m ≡ None → IsFree m
is-free (meanings.Constant None n) h k = tt
is-free (meanings.Constant (Some v) n) h k = absurd (cc k)
is-free (meanings.Typed (types.Num v lo hi)) h k = absurd (cc k)
is-free m h k = absurd (cc h)

neither-width : (a b : Option Width) → first_of a b ≡ None → (a ≡ None) × (b ≡ None)
neither-width None b h = (refl, h)
neither-width (Some w) b h = absurd (cc h)

all-free : (os : List Operand) → not_of_one_width None os ≡ None → common_width os ≡ None → AllByRecursion IsFree (meanings_in os)
all-free [] h k = tt
all-free (o ∷ os) h k =
    let p = one-width-parts None o os h in
    let q = neither-width (meant.width_of o.of) (common_width os) k in
    let P : Option Width → Type 0 = λ w. not_of_one_width (first_of None w) os ≡ None in
    (is-free o.of p.number q.0, all-free os (subst P q.0 p.behind) q.1)

one-width : (os : List Operand) → not_of_one_width None os ≡ None → first_not (fits_width (common_width os)) os ≡ None → AreOfOneWidth (common_width os) (meanings_in os)
one-width os h k = by_width (common_width os) refl k
  where
    by_width : (w : Option Width) → common_width os ≡ w → first_not (fits_width w) os ≡ None → AreOfOneWidth w (meanings_in os)
    by_width None e f = all-free os h e
    by_width (Some w) e f = all-of-width w os (all-fit w os h e f)

-- ---- constants

not-constant : (m : Meaning) → constant_number m ≡ None → is_constant m ≡ false
not-constant (meanings.Constant w n) h = absurd (cc h)
not-constant (meanings.Typed ty) h = refl

vary : (os : List Operand) → constants_in os ≡ None → Vary (meanings_in os)
vary [] h = absurd (cc h)
vary (o ∷ os) h = by_first (constant_number o.of) refl (constants_in os) refl h (vary os)
  where
    by_first : (a : Option ℕ) → constant_number o.of ≡ a → (b : Option (List ℕ)) → constants_in os ≡ b → with_number a b ≡ None → (constants_in os ≡ None → Vary (meanings_in os)) → Vary (o.of ∷ meanings_in os)
    by_first None e b f k more = record { n = 0; m = o.of; there = refl; varies = not-constant o.of e }
    by_first (Some n) e None f k more = let r = more f in record { n = suc r.n; m = r.m; there = r.there; varies = r.varies }
    by_first (Some n) e (Some ns) f k more = absurd (cc k)

are-constants : (os : List Operand) (ns : List ℕ) → constants_in os ≡ Some ns → AreConstants (meanings_in os) ns
are-constants [] ns h = let none : [] ≡ ns = cc h in ap (λ zs. map (λ n. Some n) zs) none
are-constants (o ∷ os) ns h = by_first (constant_number o.of) refl (constants_in os) refl h (are-constants os)
  where
    by_first : (a : Option ℕ) → constant_number o.of ≡ a → (b : Option (List ℕ)) → constants_in os ≡ b → with_number a b ≡ Some ns
        → ((ms : List ℕ) → constants_in os ≡ Some ms → AreConstants (meanings_in os) ms) → AreConstants (o.of ∷ meanings_in os) ns
    by_first None e b f k more = absurd (cc k)
    by_first (Some n) e None f k more = absurd (cc k)
    by_first (Some n) e (Some ms) f k more =
        let all : n ∷ ms ≡ ns = cc k in
        ap (λ a. a ∷ map constant_number (meanings_in os)) e ∙ ap (λ zs. Some n ∷ zs) (more ms f) ∙ ap (λ zs. map (λ n. Some n) zs) all

record ConstantOf (width : Option Width) (o : Option ℕ) (m : Meaning) : Type 0 where
  value : ℕ
  is : o ≡ Some value
  gives : meanings.Constant width value ≡ m

constant-parts : (width : Option Width) (o : Option ℕ) (m : Meaning) → constant_of width o ≡ Some m → ConstantOf width o m
constant-parts width None m h = absurd (cc h)
constant-parts width (Some n) m h = record { value = n; is = refl; gives = cc h }

-- ---- operators

all-hold : (test : Meaning → Bool) (os : List Operand) → first_not test os ≡ None → AllByRecursion (λ m. test m ≡ true) (meanings_in os)
all-hold test [] h = tt
all-hold test (o ∷ os) h = let p = first-holds test o os h in (p.0, all-hold test os p.1)

number-gives : (op : Arith) (os : List Operand) (m : Meaning) → is_shift op ≡ false → not_of_one_width None os ≡ None → first_not (fits_width (common_width os)) os ≡ None
    → width_given op os ≡ common_width os → (c : Option (List ℕ)) → constants_in os ≡ c → computed op os c ≡ Some m → Gives (arithmetic op) (meanings_in os) m
number-gives op os m shift taken fitting width None e h =
    let P : Option Width → Type 0 = λ w. number_in w ≡ Some m in
    let r = number-in (common_width os) m (subst P width h) in
    let Q : Option Width → Type 0 = λ w. AreOfOneWidth w (meanings_in os) in
    subst (Gives (arithmetic op) (meanings_in os)) r.gives (a_number op (meanings_in os) r.of shift (subst Q r.is (one-width os taken fitting)) (vary os e))
number-gives op os m shift taken fitting width (Some ns) e h =
    let P : Option Width → Type 0 = λ w. constant_of w (constant_value op (bits_in w) ns) ≡ Some m in
    let r = constant-parts (common_width os) (constant_value op (bits_in (common_width os)) ns) m (subst P width h) in
    subst (Gives (arithmetic op) (meanings_in os)) r.gives (a_constant op (meanings_in os) (common_width os) ns r.value shift (one-width os taken fitting) (are-constants os ns e) r.is)

-- A shift with more operands takes no more.
record Shifted (a b : Operand) (os : List Operand) : Type 0 where
  left : is_number a.of ≡ true
  right : is_number b.of ≡ true

shifted : (a b : Operand) (os : List Operand) → not_shifted (a ∷ b ∷ os) ≡ None → Shifted a b os
shifted a b os h = let r = shift-parts a b h in record { left = r.left; right = r.right }

shift-gives : (op : Arith) (a b : Operand) (os : List Operand) (m : Meaning) → is_shift op ≡ true → not_shifted (a ∷ b ∷ os) ≡ None
    → width_given op (a ∷ b ∷ os) ≡ meant.width_of a.of → (c : Option (List ℕ)) → constants_in (a ∷ b ∷ os) ≡ c → computed op (a ∷ b ∷ os) c ≡ Some m → Gives (arithmetic op) (meanings_in (a ∷ b ∷ os)) m
shift-gives op a b os m shift taken width None e h =
    let s = shifted a b os taken in
    let P : Option Width → Type 0 = λ w. number_in w ≡ Some m in
    let r = number-in (meant.width_of a.of) m (subst P width h) in
    subst (Gives (arithmetic op) (meanings_in (a ∷ b ∷ os))) r.gives (a_shifted_number op a.of b.of (meanings_in os) r.of shift s.left s.right r.is (vary (a ∷ b ∷ os) e))
shift-gives op a b os m shift taken width (Some ns) e h =
    let s = shifted a b os taken in
    let P : Option Width → Type 0 = λ w. constant_of w (constant_value op (bits_in w) ns) ≡ Some m in
    let r = constant-parts (meant.width_of a.of) (constant_value op (bits_in (meant.width_of a.of)) ns) m (subst P width h) in
    subst (Gives (arithmetic op) (meanings_in (a ∷ b ∷ os))) r.gives (a_shifted_constant op a.of b.of (meanings_in os) ns r.value shift s.left s.right (are-constants (a ∷ b ∷ os) ns e) r.is)

order-gives : (op : Order) (os : List Operand) → not_of_one_width None os ≡ None → first_not (fits_width (common_width os)) os ≡ None → Gives (ordering op) (meanings_in os) (meanings.Typed types.Flag)
order-gives op os h k = a_comparison op (meanings_in os) (common_width os) (one-width os h k)

same-gives : (op : Order) (o : Operand) (os : List Operand) → (op ≡ equal) ⊎ (op ≡ differs) → (t : Bool) → is_status o.of ≡ t → (if t then first_not is_status os else not_of_one_width None (o ∷ os)) ≡ None
    → first_not (fits_width (common_width (o ∷ os))) (o ∷ os) ≡ None → Gives (ordering op) (meanings_in (o ∷ os)) (meanings.Typed types.Flag)
same-gives op o os which true e h k = one_status op (meanings_in (o ∷ os)) which (e, all-hold is_status os h)
same-gives op o os which false e h k = order-gives op (o ∷ os) h k

pub operator-gives : (sort : OperatorKind) (a b : Operand) (os : List Operand) (m : Meaning) → meaning_of_operator sort (a ∷ b ∷ os) ≡ Some m → Gives sort (meanings_in (a ∷ b ∷ os)) m
operator-gives (arithmetic op) a b os m h =
    let r = taken-parts (arithmetic op) (a ∷ b ∷ os) m h in
    by_shift (is_shift op) refl r.taken r.fitting refl r.gives
  where
    all : List Operand
    all = a ∷ b ∷ os

    by_shift : (t : Bool) → is_shift op ≡ t → (if t then not_shifted (a ∷ b ∷ os) else not_of_one_width None (a ∷ b ∷ os)) ≡ None
        → (if t then None else first_not (fits_width (common_width (a ∷ b ∷ os))) (a ∷ b ∷ os)) ≡ None → width_given op (a ∷ b ∷ os) ≡ (if is_shift op then left_width (a ∷ b ∷ os) else common_width (a ∷ b ∷ os))
        → computed op (a ∷ b ∷ os) (constants_in (a ∷ b ∷ os)) ≡ Some m → Gives (arithmetic op) (meanings_in (a ∷ b ∷ os)) m
    by_shift true e taken fitting width gives =
        shift-gives op a b os m e taken (width ∙ ap (λ t. if t then left_width (a ∷ b ∷ os) else common_width (a ∷ b ∷ os)) e) (constants_in (a ∷ b ∷ os)) refl gives
    by_shift false e taken fitting width gives =
        number-gives op (a ∷ b ∷ os) m e taken fitting (width ∙ ap (λ t. if t then left_width (a ∷ b ∷ os) else common_width (a ∷ b ∷ os)) e) (constants_in (a ∷ b ∷ os)) refl gives
operator-gives (ordering op) a b os m h =
    let r = taken-parts (ordering op) (a ∷ b ∷ os) m h in
    let same : meanings.Typed types.Flag ≡ m = cc r.gives in
    subst (Gives (ordering op) (meanings_in (a ∷ b ∷ os))) same (by_order op r)
  where
    by_order : (op : Order) → Taken (ordering op) (a ∷ b ∷ os) m → Gives (ordering op) (meanings_in (a ∷ b ∷ os)) (meanings.Typed types.Flag)
    by_order equal r = same-gives equal a (b ∷ os) (inl refl) (is_status a.of) refl r.taken r.fitting
    by_order differs r = same-gives differs a (b ∷ os) (inr refl) (is_status a.of) refl r.taken r.fitting
    by_order less r = order-gives less (a ∷ b ∷ os) r.taken r.fitting
    by_order at_most r = order-gives at_most (a ∷ b ∷ os) r.taken r.fitting
    by_order at_least r = order-gives at_least (a ∷ b ∷ os) r.taken r.fitting
    by_order greater r = order-gives greater (a ∷ b ∷ os) r.taken r.fitting
operator-gives (joining both) a b os m h =
    let r = taken-parts (joining both) (a ∷ b ∷ os) m h in
    let same : meanings.Typed types.Flag ≡ m = cc r.gives in
    subst (Gives (joining both) (meanings_in (a ∷ b ∷ os))) same (a_junction both (meanings_in (a ∷ b ∷ os)) (all-hold is_flag (a ∷ b ∷ os) r.taken))
