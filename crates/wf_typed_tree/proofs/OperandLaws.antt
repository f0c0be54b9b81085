-- What an operator takes, and what that says of the trees of its operands. With it the laws of `and` and `or`.
use Rattle.std.proofs.Common.{◌≡◌, ℕ, ◌^◌, Bool, true, false, not, List, [], ◌∷◌, Option, Some, None, refl, sym, ap, ◌∙◌, subst, nat_lt}
use Rattle.std.specs.Prelude.{if◌then◌else◌, is_some}
use Rattle.std.specs.Bool.{⊤}
use Rattle.wf_text.specs.declared.place.Place.{Place}
use Rattle.wf_base.specs.declared.widths.Width.{Width}
use Rattle.wf_base.specs.BaseTable.{bits_of}
use Rattle.wf_ast.specs.declared.types.Ty.TheVariants as types
use Rattle.wf_ast.specs.TypedTree.{NumTree, number, CondTree, junction, ValueTree, numeric}
use Rattle.wf_ast.specs.TypedTrees.{OperatorKind, joining, cond_in, cond_chain, chain_of}
use Rattle.wf_ast.specs.WellTyped.{Context, fits, is_whole_number, well_part, well_cond}
use Rattle.wf_types_rules.specs.declared.meanings.Meaning.{Meaning}
use Rattle.wf_types_rules.specs.declared.meanings.Meaning.TheVariants as meanings
use Rattle.wf_types_rules.specs.declared.meanings.Operand.{Operand}
use Rattle.wf_types_rules.specs.Meanings as meant
use Rattle.wf_types_rules.specs.Meanings.{same_width, constant_number}
use Rattle.wf_types_rules.specs.Operands.{first_not, first_of, differs_in, not_of_one_width, not_taken, common_width, fits_width, not_fitting, are_taken, given, meaning_of_operator}
use Rattle.wf_typed_tree.specs.ElaboratedExprs.{type_meant, number_or}
use Rattle.wf_typed_tree.specs.MeaningTrees.{IsCondition, HasMeaning}
use Rattle.wf_typed_tree.proofs.NumberLemmas.{both, and-true, same-self, same-bits, in-64, width-fits, varies-whole}

-- Operands with trees of their meanings.
abbrev pub Matched : Context → List Operand → List ValueTree → Type 0
Matched c [] [] = ⊤
Matched c (o ∷ os) (t ∷ ts) = HasMeaning c o.of t × Matched c os ts
Matched c os ts = ⊥

-- What an operator's meaning is made of.
pub record Taken (sort : OperatorKind) (os : List Operand) (m : Meaning) : Type 0 where
  pub taken : not_taken sort os ≡ None
  pub fitting : not_fitting sort os ≡ None
  pub gives : given sort os ≡ Some m

none-there : {X : Type 0} (o : Option X) → not (is_some o) ≡ true → o ≡ None
none-there None h = refl
none-there (Some x) h = absurd (cc h)

pub taken-parts : (sort : OperatorKind) (os : List Operand) (m : Meaning) → meaning_of_operator sort os ≡ Some m → Taken sort os m
taken-parts sort os m h = by_test (are_taken sort os) refl h
  where
    by_test : (b : Bool) → are_taken sort os ≡ b → (if b then given sort os else None) ≡ Some m → Taken sort os m
    by_test true e k =
        let p = both (not (is_some (not_taken sort os))) (not (is_some (not_fitting sort os))) e in
        record { taken = none-there (not_taken sort os) p.0; fitting = none-there (not_fitting sort os) p.1; gives = k }
    by_test false e k = absurd (cc k)

-- The first of operands that all pass a test.
pub first-holds : (test : Meaning → Bool) (o : Operand) (os : List Operand) → first_not test (o ∷ os) ≡ None → (test o.of ≡ true) × (first_not test os ≡ None)
first-holds test o os h = by_test (test o.of) refl h
  where
    by_test : (b : Bool) → test o.of ≡ b → (if b then first_not test os else Some o.at) ≡ None → (test o.of ≡ true) × (first_not test os ≡ None)
    by_test true e k = (e, k)
    by_test false e k = absurd (cc k)

-- `and` and `or`.
abbrev Conditions : Context → List ValueTree → Type 0
Conditions c [] = ⊤
Conditions c (t ∷ ts) = IsCondition c t × Conditions c ts

pub condition-of : (c : Context) (m : Meaning) (t : ValueTree) → meant.is_flag m ≡ true → HasMeaning c m t → IsCondition c t
condition-of c (meanings.Typed types.Flag) t h k = k
condition-of c m t h k = absurd (cc h)

conditions : (c : Context) (os : List Operand) (ts : List ValueTree) → first_not meant.is_flag os ≡ None → Matched c os ts → Conditions c ts
conditions c [] [] h m = tt
conditions c (o ∷ os) (t ∷ ts) h m = let p = first-holds meant.is_flag o os h in (condition-of c o.of t p.0 m.0, conditions c os ts p.1 m.1)
conditions c [] (t ∷ ts) h m = absurd m
conditions c (o ∷ os) [] h m = absurd m

pub cond-well : (c : Context) (t : ValueTree) → IsCondition c t → well_cond c (cond_in t) ≡ true
cond-well c t k = let P : ValueTree → Type 0 = λ u. well_cond c (cond_in u) ≡ true in subst P (sym k.is) k.well

joined-well : (c : Context) (at : Place) (all joined : Bool) (a : CondTree) (ts : List ValueTree) → well_cond c a ≡ true → Conditions c ts
    → well_cond c (cond_chain at all joined a ts) ≡ true
joined-well c at all joined a [] h k = h
joined-well c at all joined a (t ∷ ts) h k =
    joined-well c at all true (junction at all joined a (cond_in t)) ts (and-true (well_cond c a) (well_cond c (cond_in t)) h (cond-well c t k.0)) k.1

pub junction-means : (c : Context) (at : Place) (signs : List Place) (all : Bool) (os : List Operand) (t : ValueTree) (ts : List ValueTree) (m : Meaning)
    → meaning_of_operator (joining all) os ≡ Some m → Matched c os (t ∷ ts)
    → HasMeaning c m (number_or at (constant_number m) (chain_of at signs (type_meant (Some m)) (joining all) (t ∷ ts)))
junction-means c at signs all os t ts m h k =
    let p = taken-parts (joining all) os m h in
    let flags = conditions c os (t ∷ ts) p.taken k in
    let is : meanings.Typed types.Flag ≡ m = cc p.gives in
    let P : Meaning → Type 0 = λ n. HasMeaning c n (number_or at (constant_number n) (chain_of at signs (type_meant (Some n)) (joining all) (t ∷ ts))) in
    subst P is (record { tree = cond_chain at all false (cond_in t) ts; is = refl; well = joined-well c at all false (cond_in t) ts (cond-well c t flags.0) flags.1 })

-- Numbers of one width: the operands of all other operators.
pub record IsOperand (c : Context) (bits : ℕ) (t : ValueTree) : Type 0 where
  pub tree : NumTree
  pub is : t ≡ numeric tree
  pub fits : fits bits tree ≡ true
  pub whole : is_whole_number tree ≡ true
  pub well : well_part c tree ≡ true

abbrev pub fits_in : Width → Meaning → Bool
fits_in w (meanings.Constant None n) = nat_lt n (2 ^ bits_of w)
fits_in w (meanings.Constant (Some v) n) = same_width w v
fits_in w (meanings.Typed (types.Num v lo hi)) = same_width w v
fits_in w m = false

pub operand-of : (c : Context) (w : Width) (m : Meaning) (t : ValueTree) → fits_in w m ≡ true → HasMeaning c m t → IsOperand c (bits_of w) t
operand-of c w (meanings.Constant None n) t h k = record { tree = number k.at n; is = k.is; fits = h; whole = refl; well = in-64 None n k.fits }
operand-of c w (meanings.Constant (Some v) n) t h k =
    record {
      tree = number k.at n;
      is = k.is;
      fits = let P : ℕ → Type 0 = λ b. nat_lt n (2 ^ b) ≡ true in subst P (sym (same-bits w v h)) k.fits;
      whole = refl;
      well = in-64 (Some v) n k.fits;
    }
operand-of c w (meanings.Typed (types.Num v lo hi)) t h k =
    record { tree = k.tree; is = k.is; fits = width-fits k.tree (bits_of w) (k.width ∙ ap Some (sym (same-bits w v h))); whole = varies-whole k.tree k.varies; well = k.well }
operand-of c w m t h k = absurd (cc h)

abbrev pub AllFit : Width → List Operand → Type 0
AllFit w [] = ⊤
AllFit w (o ∷ os) = (fits_in w o.of ≡ true) × AllFit w os

abbrev pub Operands : Context → (bits : ℕ) → List ValueTree → Type 0
Operands c bits [] = ⊤
Operands c bits (t ∷ ts) = IsOperand c bits t × Operands c bits ts

pub operands-of : (c : Context) (w : Width) (os : List Operand) (ts : List ValueTree) → AllFit w os → Matched c os ts → Operands c (bits_of w) ts
operands-of c w [] [] h k = tt
operands-of c w (o ∷ os) (t ∷ ts) h k = (operand-of c w o.of t h.0 k.0, operands-of c w os ts h.1 k.1)
operands-of c w [] (t ∷ ts) h k = absurd k
operands-of c w (o ∷ os) [] h k = absurd k

-- What one width means of the first operand, and of those after it.
pub record OfOneWidth (width : Option Width) (o : Operand) (os : List Operand) : Type 0 where
  pub number : meant.is_number o.of ≡ true
  pub same : differs_in width (meant.width_of o.of) ≡ false
  pub behind : not_of_one_width (first_of width (meant.width_of o.of)) os ≡ None

pub one-width-parts : (width : Option Width) (o : Operand) (os : List Operand) → not_of_one_width width (o ∷ os) ≡ None → OfOneWidth width o os
one-width-parts width o os h = by_tests (meant.is_number o.of) (differs_in width (meant.width_of o.of)) refl refl h
  where
    by_tests : (a b : Bool) → meant.is_number o.of ≡ a → differs_in width (meant.width_of o.of) ≡ b
        → (if not a then Some o.at else if b then Some o.at else not_of_one_width (first_of width (meant.width_of o.of)) os) ≡ None → OfOneWidth width o os
    by_tests true false e f k = record { number = e; same = f; behind = k }
    by_tests true true e f k = absurd (cc k)
    by_tests false b e f k = absurd (cc k)

not-false : (b : Bool) → not b ≡ false → b ≡ true
not-false true h = refl
not-false false h = absurd (cc h)

pub fits-one : (w : Width) (m : Meaning) → meant.is_number m ≡ true → differs_in (Some w) (meant.width_of m) ≡ false → fits_width (Some w) m ≡ true → fits_in w m ≡ true
fits-one w (meanings.Constant None n) h k f = f
fits-one w (meanings.Constant (Some v) n) h k f = not-false (same_width w v) k
fits-one w (meanings.Typed (types.Num v lo hi)) h k f = not-false (same_width w v) k
fits-one w m h k f = absurd (cc h)

pub fits-none : (w : Width) (m : Meaning) → meant.is_number m ≡ true → meant.width_of m ≡ None → fits_width (Some w) m ≡ true → fits_in w m ≡ true
fits-none w (meanings.Constant None n) h k f = f
fits-none w (meanings.Constant (Some v) n) h k f = absurd (cc k)
fits-none w (meanings.Typed (types.Num v lo hi)) h k f = absurd (cc k)
fits-none w m h k f = absurd (cc h)

pub fits-own : (w : Width) (m : Meaning) → meant.is_number m ≡ true → meant.width_of m ≡ Some w → fits_in w m ≡ true
fits-own w (meanings.Constant None n) h k = absurd (cc k)
fits-own w (meanings.Constant (Some v) n) h k = let e : v ≡ w = cc k in rw e (same-self (bits_of w))
fits-own w (meanings.Typed (types.Num v lo hi)) h k = let e : v ≡ w = cc k in rw e (same-self (bits_of w))
fits-own w m h k = absurd (cc h)

-- After an operand with a width all have it.
all-fit-behind : (w : Width) (os : List Operand) → not_of_one_width (Some w) os ≡ None → first_not (fits_width (Some w)) os ≡ None → AllFit w os
all-fit-behind w [] h k = tt
all-fit-behind w (o ∷ os) h k =
    let p = one-width-parts (Some w) o os h in
    let q = first-holds (fits_width (Some w)) o os k in
    (fits-one w o.of p.number p.same q.0, all-fit-behind w os p.behind q.1)

-- And all operands have it, where one has.
pub all-fit : (w : Width) (os : List Operand) → not_of_one_width None os ≡ None → common_width os ≡ Some w → first_not (fits_width (Some w)) os ≡ None → AllFit w os
all-fit w [] h e k = absurd (cc e)
all-fit w (o ∷ os) h e k = by_width (all-fit w os) (meant.width_of o.of) refl (one-width-parts None o os h) (first-holds (fits_width (Some w)) o os k)
  where
    by_width : (not_of_one_width None os ≡ None → common_width os ≡ Some w → first_not (fits_width (Some w)) os ≡ None → AllFit w os)
        → (v : Option Width) → meant.width_of o.of ≡ v → OfOneWidth None o os → (fits_width (Some w) o.of ≡ true) × (first_not (fits_width (Some w)) os ≡ None) → AllFit w (o ∷ os)
    by_width rest None f p q =
        let P : Option Width → Type 0 = λ u. not_of_one_width (first_of None u) os ≡ None in
        let Q : Option Width → Type 0 = λ u. first_of u (common_width os) ≡ Some w in
        (fits-none w o.of p.number f q.0, rest (subst P f p.behind) (subst Q f e) q.1)
    by_width rest (Some v) f p q =
        let Q : Option Width → Type 0 = λ u. first_of u (common_width os) ≡ Some w in
        let same : v ≡ w = let all : Some v ≡ Some w = subst Q f e in cc all in
        let own : meant.width_of o.of ≡ Some w = f ∙ ap Some same in
        let P : Option Width → Type 0 = λ u. not_of_one_width (first_of None u) os ≡ None in
        (fits-own w o.of p.number own, all-fit-behind w os (subst P own p.behind) q.1)
