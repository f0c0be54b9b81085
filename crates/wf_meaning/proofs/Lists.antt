-- Items of lists.
use Rattle.std.proofs.Common.{◌≡◌, ℕ, zero, suc, Bool, true, false, ◌&&◌, List, [], ◌∷◌, ◌++◌, length, map, Some, ◌⊎◌, inl, inr, refl, sym, ap}
use Rattle.std.specs.Prelude.{slice_get}
use Rattle.wf_meaning.specs.World.{updated}

pub updated-at : {X : Type 0} (f : X → X) (i : ℕ) (xs : List X) (x : X) → slice_get xs i ≡ Some x → slice_get (updated f i xs) i ≡ Some (f x)
updated-at f i [] x h = absurd (cc (h))
updated-at f zero (y ∷ ys) x h = let e : y ≡ x = cc in ap (λ z. Some (f z)) e
updated-at f (suc i) (y ∷ ys) x h = updated-at f i ys x h

pub updated-other : {X : Type 0} (f : X → X) (i j : ℕ) (xs : List X) → (j ≡ i → ⊥) → slice_get (updated f i xs) j ≡ slice_get xs j
updated-other f i j [] h = refl
updated-other f zero zero (y ∷ ys) h = absurd (h refl)
updated-other f zero (suc j) (y ∷ ys) h = refl
updated-other f (suc i) zero (y ∷ ys) h = refl
updated-other f (suc i) (suc j) (y ∷ ys) h = updated-other f i j ys (λ e. h (ap suc e))

-- An item that is replaced by itself.
pub updated-same : {X : Type 0} (x : X) (i : ℕ) (xs : List X) → slice_get xs i ≡ Some x → updated (λ _. x) i xs ≡ xs
updated-same x i [] h = refl
updated-same x zero (y ∷ ys) h = let e : y ≡ x = cc in ap (λ z. z ∷ ys) (sym e)
updated-same x (suc i) (y ∷ ys) h = ap (λ zs. y ∷ zs) (updated-same x i ys h)

pub length-map : {X Y : Type 0} (f : X → Y) (xs : List X) → length (map f xs) ≡ length xs
length-map f [] = refl
length-map f (x ∷ xs) = ap suc (length-map f xs)

-- An item of a list.
pub record Has {X : Type 0} (xs : List X) (x : X) : Type 0 where
  pub place : ℕ
  pub is : slice_get xs place ≡ Some x

pub has_more : {X : Type 0} (y : X) (xs : List X) (x : X) → Has xs x → Has (y ∷ xs) x
has_more y xs x h = record { place = suc h.place; is = h.is }

-- The first item, or one of the others.
pub first_or : {X : Type 0} (y : X) (xs : List X) (x : X) (i : ℕ) → slice_get (y ∷ xs) i ≡ Some x → (y ≡ x) ⊎ Has xs x
first_or y xs x zero h = inl (cc)
first_or y xs x (suc i) h = inr (record { place = i; is = h })

pub front_or_back : {X : Type 0} (xs ys : List X) (x : X) (i : ℕ) → slice_get (xs ++ ys) i ≡ Some x → Has xs x ⊎ Has ys x
front_or_back [] ys x i h = inr (record { place = i; is = h })
front_or_back (z ∷ zs) ys x zero h = inl (record { place = 0; is = h })
front_or_back (z ∷ zs) ys x (suc i) h = further (front_or_back zs ys x i h)
  where
    further : Has zs x ⊎ Has ys x → Has (z ∷ zs) x ⊎ Has ys x
    further (inl k) = inl (has_more z zs x k)
    further (inr k) = inr k

pub both_true : (a b : Bool) → (a && b) ≡ true → (a ≡ true) × (b ≡ true)
both_true true b h = (refl, h)
both_true false b h = absurd (cc (h))

-- What stands in a list in which one item is replaced: the new item at its place, or what stood there before.
pub same_or_other : {X : Type 0} {y x : X} (i m : ℕ) (xs : List X) → slice_get (updated (λ _. y) i xs) m ≡ Some x → ((i ≡ m) × (y ≡ x)) ⊎ (slice_get xs m ≡ Some x)
same_or_other i m [] e = inr e
same_or_other zero zero (z ∷ zs) e = inl (refl, cc)
same_or_other zero (suc m) (z ∷ zs) e = inr e
same_or_other (suc i) zero (z ∷ zs) e = inr e
same_or_other {X} {y} {x} (suc i) (suc m) (z ∷ zs) e = further (same_or_other i m zs e)
  where
    further : ((i ≡ m) × (y ≡ x)) ⊎ (slice_get zs m ≡ Some x) → ((suc i ≡ suc m) × (y ≡ x)) ⊎ (slice_get zs m ≡ Some x)
    further (inl h) = inl (ap suc h.0, h.1)
    further (inr h) = inr h
