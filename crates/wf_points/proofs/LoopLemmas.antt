-- Steps of the loops over statements, points, methods and locals.
use Rattle.std.proofs.Common.{◌≡◌, ℕ, ◌+◌, ◌≤◌, Bool, true, false, List, [], ◌∷◌, ◌++◌, length, map, drop, Option, Some, None, refl, sym, ap, ◌∙◌, subst, append_assoc}
use Rattle.std.specs.Prelude.{slice_get, if◌then◌else◌}
use Rattle.std.proofs.Math.ListN.{drop_of_length-le}
use Rattle.std.proofs.lemmas.List.{drop_more, append-nil}
use Rattle.std.proofs.lemmas.Option.{slice_get_within, get_or_from_slice_get}
use Rattle.wf_text.specs.declared.rules.Refusal.{Refusal}
use Rattle.wf_text.specs.Precedence.{is_before, sooner, soonest}
use Rattle.wf_ast.specs.declared.variables.LocalId.{LocalId}
use Rattle.wf_ast.specs.TypedPackage.{MethodTree}
use Rattle.wf_points.specs.declared.finding.FoundPoint.{FoundPoint}
use Rattle.wf_points.specs.PointNumbers.{number_at, earlier, number_in, point_number}
use Rattle.wf_points.specs.FoundPoints.{too_many, NumbersMethod, NumbersMethods}

-- Nothing is left.
pub all_found : {X : Type 0} (count : List X → List FoundPoint) (xs : List X) (i : ℕ) (found all : List FoundPoint) → count [] ≡ [] → length xs ≤ i → found ++ count (drop i xs) ≡ all → found ≡ all
all_found {X} count xs i found all none l h =
    let P : List X → Type 0 = λ ys. found ++ count ys ≡ all in
    sym (append-nil found) ∙ ap (λ ys. found ++ ys) (sym none) ∙ subst P (drop_of_length-le xs l) h

-- An item, with those that follow it.
pub drop_at : {X : Type 0} (xs : List X) (i : ℕ) (x : X) → slice_get xs i ≡ Some x → drop i xs ≡ x ∷ drop (i + 1) xs
drop_at {X} xs i x e =
    let P : X → Type 0 = λ y. drop i xs ≡ y ∷ drop (i + 1) xs in
    subst P (get_or_from_slice_get xs i x x e) (drop_more xs i x (slice_get_within xs i x e))

-- Numbers.
earlier_assoc : (a b c : Option ℕ) → earlier (earlier a b) c ≡ earlier a (earlier b c)
earlier_assoc None b c = refl
earlier_assoc (Some n) b c = refl

earlier_none : (o : Option ℕ) → earlier o None ≡ o
earlier_none None = refl
earlier_none (Some n) = refl

-- Methods.
pub next_saved : (save : MethodTree → List LocalId) (ms : List MethodTree) (i : ℕ) (m : MethodTree) (saved next all : List (List LocalId)) (one : List LocalId) → slice_get ms i ≡ Some m
    → saved ++ map save (drop i ms) ≡ all → one ≡ save m → next ≡ saved ++ one ∷ [] → next ++ map save (drop (i + 1) ms) ≡ all
next_saved save ms i m saved next all one e h is n =
    let P : List MethodTree → Type 0 = λ xs. saved ++ map save xs ≡ all in
    ap (λ x. x ++ map save (drop (i + 1) ms)) n ∙ append_assoc saved (one ∷ []) (map save (drop (i + 1) ms)) ∙ ap (λ x. saved ++ x ∷ map save (drop (i + 1) ms)) is ∙ subst P (drop_at ms i m e) h

pub all_saved : (save : MethodTree → List LocalId) (ms : List MethodTree) (i : ℕ) (saved all : List (List LocalId)) → length ms ≤ i → saved ++ map save (drop i ms) ≡ all → saved ≡ all
all_saved save ms i saved all l h =
    let P : List MethodTree → Type 0 = λ xs. saved ++ map save xs ≡ all in
    sym (append-nil saved) ∙ subst P (drop_of_length-le ms l) h

-- What was found of methods, with what is left to be found.
pub record NumbersLeft (old now : List (Option ℕ)) (refusal : Option Refusal) (left ms : List MethodTree) : Type 0 where
  pub refused : soonest refusal (map too_many left) ≡ soonest None (map too_many ms)
  pub numbers : refusal ≡ None → (s : ℕ) → earlier (number_at now s) (point_number left s) ≡ earlier (number_at old s) (point_number ms s)

none_sooner : (a b : Option Refusal) → sooner a b ≡ None → (a ≡ None) × (b ≡ None)
none_sooner None None h = (refl, refl)
none_sooner None (Some r) h = absurd (cc h)
none_sooner (Some r) None h = absurd (cc h)
none_sooner (Some r) (Some s) h = by (is_before s r) h
  where
    by : (test : Bool) → (if test then Some s else Some r) ≡ None → (Some r ≡ None) × (Some s ≡ None)
    by true h = absurd (cc h)
    by false h = absurd (cc h)

pub next_method : (old now new : List (Option ℕ)) (refusal one : Option Refusal) (ms : List MethodTree) (i : ℕ) (m : MethodTree) → slice_get ms i ≡ Some m
    → NumbersLeft old now refusal (drop i ms) ms → NumbersMethod now new one m → NumbersLeft old new (sooner refusal one) (drop (i + 1) ms) ms
next_method old now new refusal one ms i m e left here =
    let P : List MethodTree → Type 0 = λ xs. NumbersLeft old now refusal xs ms in
    let next = subst P (drop_at ms i m e) left in
    let rest = drop (i + 1) ms in
    record {
      refused = ap (λ o. soonest (sooner refusal o) (map too_many rest)) here.refused ∙ next.refused;
      numbers = λ none s.
          let both = none_sooner refusal one none in
          ap (λ o. earlier o (point_number rest s)) (here.numbers both.1 s) ∙ earlier_assoc (number_at now s) (number_in m.body s) (point_number rest s) ∙ next.numbers both.0 s;
    }

pub all_methods : (old now : List (Option ℕ)) (refusal : Option Refusal) (ms : List MethodTree) (i : ℕ) → length ms ≤ i → NumbersLeft old now refusal (drop i ms) ms → NumbersMethods old now refusal ms
all_methods old now refusal ms i l left =
    let P : List MethodTree → Type 0 = λ xs. NumbersLeft old now refusal xs ms in
    let end = subst P (drop_of_length-le ms l) left in
    record { refused = end.refused; numbers = λ none s. sym (earlier_none (number_at now s)) ∙ end.numbers none s }
