-- What holds of all items of lists.
use Rattle.std.proofs.Common.{◌≡◌, ℕ, suc, List, [], ◌∷◌, ◌++◌, map, Some, slice_get, refl}
use Rattle.std.specs.List.{AllByRecursion, flat_map}

module _ {X : Type 0} (P : X → Type 0) where
  -- What holds at each place.
  pub all-from : (xs : List X) → ((i : ℕ) (x : X) → slice_get xs i ≡ Some x → P x) → AllByRecursion P xs
  all-from [] h = tt
  all-from (x ∷ xs) h = (h 0 x refl, all-from xs (λ i y e. h (suc i) y e))

  pub all-front : (xs ys : List X) → AllByRecursion P (xs ++ ys) → AllByRecursion P xs
  all-front [] ys a = tt
  all-front (x ∷ xs) ys a = (a.0, all-front xs ys a.1)

  pub all-behind : (xs ys : List X) → AllByRecursion P (xs ++ ys) → AllByRecursion P ys
  all-behind [] ys a = a
  all-behind (x ∷ xs) ys a = all-behind xs ys a.1

  pub all-append : (xs ys : List X) → AllByRecursion P xs → AllByRecursion P ys → AllByRecursion P (xs ++ ys)
  all-append [] ys a b = b
  all-append (x ∷ xs) ys a b = (a.0, all-append xs ys a.1 b)

  -- Of lists that are made of other lists.
  pub all-of-map : {Y : Type 0} (f : Y → X) (ys : List Y) → AllByRecursion P (map f ys) → AllByRecursion (λ y. P (f y)) ys
  all-of-map f [] a = tt
  all-of-map f (y ∷ ys) a = (a.0, all-of-map f ys a.1)

  pub all-of-flat : {Y : Type 0} (f : Y → List X) (ys : List Y) → AllByRecursion P (flat_map f ys) → AllByRecursion (λ y. AllByRecursion P (f y)) ys
  all-of-flat f [] a = tt
  all-of-flat f (y ∷ ys) a = (all-front (f y) (flat_map f ys) a, all-of-flat f ys (all-behind (f y) (flat_map f ys) a))

  pub all-mapped : {Y : Type 0} (Q : Y → Type 0) (f : Y → X) → ((y : Y) → Q y → P (f y)) → (ys : List Y) → AllByRecursion Q ys → AllByRecursion P (map f ys)
  all-mapped Q f h [] a = tt
  all-mapped Q f h (y ∷ ys) a = (h y a.0, all-mapped Q f h ys a.1)

  -- Of what two things hold a third does.
  pub all-both : (Q R : X → Type 0) → ((x : X) → Q x → R x → P x) → (xs : List X) → AllByRecursion Q xs → AllByRecursion R xs → AllByRecursion P xs
  all-both Q R h [] a b = tt
  all-both Q R h (x ∷ xs) a b = (h x a.0 b.0, all-both Q R h xs a.1 b.1)
