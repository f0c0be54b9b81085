-- The points of a method whose statements stand in order are numbered 1, 2 and so on.
use Rattle.std.proofs.Common.{◌≡◌, ℕ, zero, suc, ◌+◌, Bool, true, false, cond, List, [], ◌∷◌, Some, refl, ap, ◌∙◌, subst, arith}
use Rattle.std.specs.Prelude.{slice_get, count_by}
use Rattle.std.specs.List.{AllByRecursion}
use Rattle.std.proofs.lemmas.List.Sums.{sum_by-cons}
use Rattle.std.proofs.lemmas.Bool.Decides.{nat_tests}
use Rattle.wf_text.specs.declared.place.Place.{Place}
use Rattle.wf_ast.specs.TypedTree.{Site}
use Rattle.wf_ast.specs.StatementOrder.{stands_before}
use Rattle.wf_meaning.specs.Remaining.{number_among}
use Rattle.wf_meaning.specs.Laws.{Ascend}

before-irrefl : (a : Place) → stands_before a a ≡ false
before-irrefl a = grind (arith, nat_tests)

before-asym : (a b : Place) → stands_before a b ≡ true → stands_before b a ≡ false
before-asym a b h = grind (arith, nat_tests, h)

count-cons : (p : Site → Bool) (x : Site) (xs : List Site) (b : Bool) → p x ≡ b → count_by p (x ∷ xs) ≡ cond b 1 0 + count_by p xs
count-cons p x xs b e = sum_by-cons (λ y. cond (p y) 1 0) x xs ∙ ap (λ c. cond c 1 0 + count_by p xs) e

none_before : (s : Site) (ss : List Site) → AllByRecursion (λ t. stands_before s.at t.at ≡ true) ss → count_by (λ t. stands_before t.at s.at) ss ≡ 0
none_before s [] h = refl
none_before s (t ∷ ss) h =
    let inner = none_before s ss h.1 in
    count-cons (λ q. stands_before q.at s.at) t ss false (before-asym s.at t.at h.0) ∙ omega (arith, inner)

among : (P : Site → Type 0) (ss : List Site) (i : ℕ) (t : Site) → AllByRecursion P ss → slice_get ss i ≡ Some t → P t
among P [] i t h e = absurd (cc (e))
among P (s ∷ ss) zero t h e = let k : s ≡ t = cc in subst P k h.0
among P (s ∷ ss) (suc i) t h e = among P ss i t h.1 e

counted : (points : List Site) → Ascend points → (i : ℕ) (site : Site) → slice_get points i ≡ Some site → count_by (λ t. stands_before t.at site.at) points ≡ i
counted [] h i site e = absurd (cc (e))
counted (s ∷ ss) h zero site e =
    let k : s ≡ site = cc in
    let P : Site → Type 0 = λ t. count_by (λ q. stands_before q.at t.at) (s ∷ ss) ≡ 0 in
    let inner = none_before s ss h.0 in
    subst P k (count-cons (λ q. stands_before q.at s.at) s ss false (before-irrefl s.at) ∙ omega (arith, inner))
counted (s ∷ ss) h (suc i) site e =
    let inner = counted ss h.1 i site e in
    let front = among (λ t. stands_before s.at t.at ≡ true) ss i site h.0 e in
    count-cons (λ q. stands_before q.at site.at) s ss true front ∙ omega (arith, inner)

pub numbered : (points : List Site) → Ascend points → (i : ℕ) (site : Site) → slice_get points i ≡ Some site → number_among points site.at ≡ 1 + i
numbered points h i site e = ap (λ n. 1 + n) (counted points h i site e)
