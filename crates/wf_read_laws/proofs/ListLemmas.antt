-- What holds of all items of lists.
use Rattle.std.proofs.Common.{◌≡◌, ℕ, zero, suc, List, [], ◌∷◌, ◌++◌, map, Some, slice_get, subst}
use Rattle.std.specs.List.{AllByRecursion, flat_map}

module _ {X : Type 0} (P : X → Type 0) where
  pub all-at : (xs : List X) (i : ℕ) (x : X) → AllByRecursion P xs → slice_get xs i ≡ Some x → P x
  all-at [] i x a e = absurd (cc e)
  all-at (y ∷ xs) zero x a e = let same : y ≡ x = cc e in subst P same a.0
  all-at (y ∷ xs) (suc i) x a e = all-at xs i x a.1 e

  pub all-append : (xs ys : List X) → AllByRecursion P xs → AllByRecursion P ys → AllByRecursion P (xs ++ ys)
  all-append [] ys a b = b
  all-append (x ∷ xs) ys a b = (a.0, all-append xs ys a.1 b)

  pub all-behind : (xs ys : List X) → AllByRecursion P (xs ++ ys) → AllByRecursion P ys
  all-behind [] ys a = a
  all-behind (x ∷ xs) ys a = all-behind xs ys a.1

  -- Lists made of lists of which this holds.
  module _ {Y : Type 0} (Q : Y → Type 0) where
    pub all-mapped : (f : Y → X) → ((y : Y) → Q y → P (f y)) → (ys : List Y) → AllByRecursion Q ys → AllByRecursion P (map f ys)
    all-mapped f h [] a = tt
    all-mapped f h (y ∷ ys) a = (h y a.0, all-mapped f h ys a.1)

    pub all-flat : (f : Y → List X) → ((y : Y) → Q y → AllByRecursion P (f y)) → (ys : List Y) → AllByRecursion Q ys → AllByRecursion P (flat_map f ys)
    all-flat f h [] a = tt
    all-flat f h (y ∷ ys) a = all-append (f y) (flat_map f ys) (h y a.0) (all-flat f h ys a.1)
