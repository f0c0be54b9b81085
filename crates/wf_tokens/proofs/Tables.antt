-- What a search through a table finds.
use Rattle.std.proofs.Common.{◌≡◌, ℕ, ◌≤◌, Bool, true, false, Some, None, List, [], ◌∷◌, refl, sym, subst, cond, nat_le, ◌&&◌, suc, zero, arith, slice_get}
use Rattle.std.specs.List.{find, list_all}
use Rattle.std.proofs.lemmas.Bool.Decides.{nat_tests}

pub record Both (a b : Bool) : Type 0 where
  pub left : a ≡ true
  pub right : b ≡ true

pub both : (a b : Bool) → (a && b) ≡ true → Both a b
both true true h = record { left = refl; right = refl }
both true false h = absurd cc
both false b h = absurd cc

-- What is found passes the test.
pub found-passes : {X : Type 0} (test : X → Bool) (xs : List X) (x : X) → find test xs ≡ Some x → test x ≡ true
found-passes test [] x h = absurd cc
found-passes {X} test (y ∷ xs) x h = by_test (found-passes test xs x) (test y) refl h
  where
    by_test : (find test xs ≡ Some x → test x ≡ true) → (b : Bool) → test y ≡ b → cond b (Some y) (find test xs) ≡ Some x → test x ≡ true
    by_test later true e g = let same : y ≡ x = cc in subst (λ (z : X). test z ≡ true) same e
    by_test later false e g = later g

-- No entry of the table passes where none is found.
pub none-passes : {X : Type 0} (test : X → Bool) (xs : List X) (i : ℕ) (y : X) → find test xs ≡ None → slice_get xs i ≡ Some y → test y ≡ true → ⊥
none-passes test [] i y h at passes = cc
none-passes {X} test (x ∷ xs) zero y h at passes = by_test (test x) refl h
  where
    same : x ≡ y
    same = cc

    by_test : (b : Bool) → test x ≡ b → cond b (Some x) (find test xs) ≡ None → ⊥
    by_test true e g = cc
    by_test false e g = let p : test x ≡ true = subst (λ (z : X). test z ≡ true) (sym same) passes in cc
none-passes test (x ∷ xs) (suc i) y h at passes = by_test (λ g. none-passes test xs i y g at passes) (test x) refl h
  where
    by_test : (find test xs ≡ None → ⊥) → (b : Bool) → test x ≡ b → cond b (Some x) (find test xs) ≡ None → ⊥
    by_test later true e g = cc
    by_test later false e g = later g

-- Each entry is at least as large as those after it.
abbrev pub is_descending : {X : Type 0} → (X → ℕ) → List X → Bool
is_descending size [] = true
is_descending size (x ∷ xs) = list_all (λ y. nat_le (size y) (size x)) xs && is_descending size xs

pub all_at : {X : Type 0} (test : X → Bool) (xs : List X) (i : ℕ) (y : X) → list_all test xs ≡ true → slice_get xs i ≡ Some y → test y ≡ true
all_at test [] i y h at = absurd cc
all_at {X} test (x ∷ xs) zero y h at = let same : x ≡ y = cc in subst (λ (z : X). test z ≡ true) same (both (test x) (list_all test xs) h).left
all_at test (x ∷ xs) (suc i) y h at = all_at test xs i y (both (test x) (list_all test xs) h).right at

pub le_from_test : (m n : ℕ) → nat_le m n ≡ true → m ≤ n
le_from_test m n h = grind (arith, nat_tests)

-- What is found in a descending table is the largest entry that passes.
pub found-largest : {X : Type 0} (test : X → Bool) (size : X → ℕ) (xs : List X) (x : X) (i : ℕ) (y : X) → is_descending size xs ≡ true → find test xs ≡ Some x → slice_get xs i ≡ Some y → test y ≡ true → size y ≤ size x
found-largest test size [] x i y d h at passes = absurd cc
found-largest {X} test size (z ∷ xs) x zero y d h at passes = subst (λ (w : X). size y ≤ size w) (by_test (test z) refl h) (omega arith)
  where
    same : z ≡ y
    same = cc

    by_test : (b : Bool) → test z ≡ b → cond b (Some z) (find test xs) ≡ Some x → y ≡ x
    by_test true e g = cc
    by_test false e g = let p : test z ≡ true = subst (λ (w : X). test w ≡ true) (sym same) passes in absurd cc
found-largest {X} test size (z ∷ xs) x (suc i) y d h at passes = by_test (λ g. found-largest test size xs x i y (both (list_all (λ w. nat_le (size w) (size z)) xs) (is_descending size xs) d).right g at passes) (test z) refl h
  where
    first : size y ≤ size z
    first = le_from_test (size y) (size z) (all_at (λ w. nat_le (size w) (size z)) xs i y (both (list_all (λ w. nat_le (size w) (size z)) xs) (is_descending size xs) d).left at)

    by_test : (find test xs ≡ Some x → size y ≤ size x) → (b : Bool) → test z ≡ b → cond b (Some z) (find test xs) ≡ Some x → size y ≤ size x
    by_test later true e g = let same : z ≡ x = cc in subst (λ (w : X). size y ≤ size w) same first
    by_test later false e g = later g
