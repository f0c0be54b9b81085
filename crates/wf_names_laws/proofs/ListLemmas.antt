-- Lists: what is found in them and at which place, and what holds of all their items.
use Rattle.std.proofs.Common.{◌≡◌, ◌⊎◌, ℕ, zero, suc, ◌+◌, ◌<◌, Bool, true, false, cond, if◌then◌else◌, List, [], ◌∷◌, ◌++◌, map, Some, None, slice_get, refl, sym, ap, ◌∙◌, subst, inl, inr, arith}
use Rattle.std.specs.List.{AllByRecursion, find, position_from, flat_map, list_all}
use Rattle.wf_names_uses.proofs.FoundLemmas.{both-so}

pub chosen : {X : Type 0} (t : Bool) (x y : X) → t ≡ true → (if t then x else y) ≡ x
chosen true x y h = refl
chosen false x y h = absurd (cc h)

pub same-inner : {X : Type 0} (x y : X) → Some x ≡ Some y → x ≡ y
same-inner x y e = cc e

-- The first item that passes a test, with its place.
pub record FoundAt {X : Type 0} (p : X → Bool) (k : ℕ) (xs : List X) : Type 0 where
  pub i : ℕ
  pub x : X
  pub found : find p xs ≡ Some x
  pub placed : position_from p k xs ≡ Some (k + i)
  pub is : slice_get xs i ≡ Some x
  pub passes : p x ≡ true

pub record FoundNowhere {X : Type 0} (p : X → Bool) (k : ℕ) (xs : List X) : Type 0 where
  pub found : find p xs ≡ None
  pub placed : position_from p k xs ≡ None
  pub none : (i : ℕ) (x : X) → slice_get xs i ≡ Some x → p x ≡ false

module _ {X : Type 0} (p : X → Bool) where
  pub found-or-not : (k : ℕ) (xs : List X) → FoundAt p k xs ⊎ FoundNowhere p k xs
  found-or-not k [] = inr (record { found = refl; placed = refl; none = λ i x e. absurd (cc e) })
  found-or-not k (y ∷ ys) = by_test (p y) refl (found-or-not (k + 1) ys)
    where
      behind : p y ≡ false → ((i : ℕ) (x : X) → slice_get ys i ≡ Some x → p x ≡ false) → (i : ℕ) (x : X) → slice_get (y ∷ ys) i ≡ Some x → p x ≡ false
      behind h none zero x e = let same : y ≡ x = cc e in ap p (sym same) ∙ h
      behind h none (suc i) x e = none i x e

      by_test : (t : Bool) → p y ≡ t → FoundAt p (k + 1) ys ⊎ FoundNowhere p (k + 1) ys → FoundAt p k (y ∷ ys) ⊎ FoundNowhere p k (y ∷ ys)
      by_test true h r = inl (record {
        i = 0;
        x = y;
        found = ap (λ t. cond t (Some y) (find p ys)) h;
        placed = ap (λ t. cond t (Some k) (position_from p (k + 1) ys)) h ∙ (let e : k ≡ k + 0 = omega arith in ap (λ n. Some n) e);
        is = refl;
        passes = h;
      })
      by_test false h (inl r) = inl (record {
        i = suc r.i;
        x = r.x;
        found = ap (λ t. cond t (Some y) (find p ys)) h ∙ r.found;
        placed = ap (λ t. cond t (Some k) (position_from p (k + 1) ys)) h ∙ r.placed ∙ (let e : (k + 1) + r.i ≡ k + suc r.i = omega arith in ap (λ n. Some n) e);
        is = r.is;
        passes = r.passes;
      })
      by_test false h (inr r) = inr (record {
        found = ap (λ t. cond t (Some y) (find p ys)) h ∙ r.found;
        placed = ap (λ t. cond t (Some k) (position_from p (k + 1) ys)) h ∙ r.placed;
        none = behind h r.none;
      })

  -- An item that passes and has none before it that does.
  pub position-first : (k : ℕ) (xs : List X) (n : ℕ) (x : X) → slice_get xs n ≡ Some x → p x ≡ true
      → ((i : ℕ) (y : X) → i < n → slice_get xs i ≡ Some y → p y ≡ false) → position_from p k xs ≡ Some (k + n)
  position-first k [] n x e h before = absurd (cc e)
  position-first k (y ∷ ys) zero x e h before =
      let same : y ≡ x = cc e in
      ap (λ t. cond t (Some k) (position_from p (k + 1) ys)) (ap p same ∙ h) ∙ (let e : k ≡ k + 0 = omega arith in ap (λ n. Some n) e)
  position-first k (y ∷ ys) (suc n) x e h before =
      ap (λ t. cond t (Some k) (position_from p (k + 1) ys)) (before 0 y (omega arith) refl)
      ∙ position-first (k + 1) ys n x e h (λ i z b. before (suc i) z (omega (arith, b)))
      ∙ (let e : (k + 1) + n ≡ k + suc n = omega arith in ap (λ n. Some n) e)

-- The place of the first that passes, counted from 0.
pub place-of : {X : Type 0} (p : X → Bool) (xs : List X) (r : FoundAt p 0 xs) → position_from p 0 xs ≡ Some r.i
place-of p xs r = let e : 0 + r.i ≡ r.i = omega arith in r.placed ∙ ap (λ n. Some n) e

module _ {X : Type 0} (P : X → Type 0) where
  pub all-front : (xs ys : List X) → AllByRecursion P (xs ++ ys) → AllByRecursion P xs
  all-front [] ys a = tt
  all-front (x ∷ xs) ys a = (a.0, all-front xs ys a.1)

  pub all-behind : (xs ys : List X) → AllByRecursion P (xs ++ ys) → AllByRecursion P ys
  all-behind [] ys a = a
  all-behind (x ∷ xs) ys a = all-behind xs ys a.1

  pub all-at : (xs : List X) (i : ℕ) (x : X) → AllByRecursion P xs → slice_get xs i ≡ Some x → P x
  all-at [] i x a e = absurd (cc e)
  all-at (y ∷ xs) zero x a e = let same : y ≡ x = cc e in subst P same a.0
  all-at (y ∷ xs) (suc i) x a e = all-at xs i x a.1 e

  pub all-from : (xs : List X) → ((i : ℕ) (x : X) → slice_get xs i ≡ Some x → P x) → AllByRecursion P xs
  all-from [] h = tt
  all-from (x ∷ xs) h = (h 0 x refl, all-from xs (λ i y e. h (suc i) y e))

  pub all-found : (p : X → Bool) (xs : List X) (x : X) → AllByRecursion P xs → find p xs ≡ Some x → P x
  all-found p [] x a e = absurd (cc e)
  all-found p (y ∷ ys) x a e = by_test (p y) (all-found p ys x a.1) e
    where
      by_test : (t : Bool) → (find p ys ≡ Some x → P x) → cond t (Some y) (find p ys) ≡ Some x → P x
      by_test true more k = let same : y ≡ x = cc k in subst P same a.0
      by_test false more k = more k

  pub all-mapped : {Y : Type 0} (f : Y → X) (ys : List Y) → AllByRecursion P (map f ys) → AllByRecursion (λ y. P (f y)) ys
  all-mapped f [] a = tt
  all-mapped f (y ∷ ys) a = (a.0, all-mapped f ys a.1)

  pub all-flat : {Y : Type 0} (f : Y → List X) (ys : List Y) (i : ℕ) (y : Y) → AllByRecursion P (flat_map f ys) → slice_get ys i ≡ Some y → AllByRecursion P (f y)
  all-flat f [] i y a e = absurd (cc e)
  all-flat f (z ∷ ys) zero y a e = let same : z ≡ y = cc e in subst (λ w. AllByRecursion P (f w)) same (all-front (f z) (flat_map f ys) a)
  all-flat f (z ∷ ys) (suc i) y a e = all-flat f ys i y (all-behind (f z) (flat_map f ys) a) e

-- A test of all items that is true at each place.
pub list-all-so : {X : Type 0} (p : X → Bool) (xs : List X) → ((i : ℕ) (x : X) → slice_get xs i ≡ Some x → p x ≡ true) → list_all p xs ≡ true
list-all-so p [] h = refl
list-all-so p (x ∷ xs) h = both-so (p x) (list_all p xs) (h 0 x refl) (list-all-so p xs (λ i y e. h (suc i) y e))
