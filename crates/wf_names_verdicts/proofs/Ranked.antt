-- The numbers below some number in the order of their ranks: those of less rank come first.
use Rattle.std.proofs.Common.{◌≡◌, ◌⊎◌, inl, inr, ℕ, zero, suc, ◌<◌, ◌≤◌, Bool, true, false, nat_eq, nat_le, if◌then◌else◌, List, [], ◌∷◌, length, take, slice_get, Some, refl, sym, ◌∙◌, ap, subst, arith}
use Rattle.std.specs.Bool.{⊤}
use Rattle.std.specs.List.{AllByRecursion, IsDistinct}
use Rattle.std.proofs.lemmas.Bool.Decides.{nat_tests}
use Rattle.graphs.specs.Graphs.{holds}
use Rattle.wf_names_verdicts.proofs.Ways.{or-cases, or-first, or-second}

same-number : (a b : ℕ) → nat_eq a b ≡ true → a ≡ b
same-number a b h = grind (arith, nat_tests, h)

number-same : (a : ℕ) → nat_eq a a ≡ true
number-same a = grind (arith, nat_tests)

all-since : {X : Type 0} (P Q : X → Type 0) → ((x : X) → P x → Q x) → (xs : List X) → AllByRecursion P xs → AllByRecursion Q xs
all-since P Q since [] h = tt
all-since P Q since (x ∷ xs) h = (since x h.0, all-since P Q since xs h.1)

pub held-all : (P : ℕ → Type 0) (xs : List ℕ) (a : ℕ) → AllByRecursion P xs → holds xs a ≡ true → P a
held-all P [] a h k = absurd (cc k)
held-all P (x ∷ xs) a h k = elim (or-cases (nat_eq a x) (holds xs a) k) [
  | inl e ↦ subst P (sym (same-number a x e)) h.0
  | inr r ↦ held-all P xs a h.1 r
]

module _ (rank : ℕ → ℕ) where
  insert : ℕ → List ℕ → List ℕ
  insert x [] = x ∷ []
  insert x (y ∷ ys) = if nat_le (rank x) (rank y) then x ∷ y ∷ ys else y ∷ insert x ys

  insert-long : (x : ℕ) (ys : List ℕ) → length (insert x ys) ≡ suc (length ys)
  unfolding insert
  insert-long x [] = refl
  insert-long x (y ∷ ys) = by_test (insert-long x ys) (nat_le (rank x) (rank y))
    where
      by_test : length (insert x ys) ≡ suc (length ys) → (b : Bool) → length (if b then x ∷ y ∷ ys else y ∷ insert x ys) ≡ suc (suc (length ys))
      by_test later true = refl
      by_test later false = ap suc later

  insert-held : (x : ℕ) (ys : List ℕ) (a : ℕ) → holds (insert x ys) a ≡ true → (a ≡ x) ⊎ (holds ys a ≡ true)
  unfolding insert
  insert-held x [] a h = elim (or-cases (nat_eq a x) false h) [ inl e ↦ inl (same-number a x e) | inr n ↦ absurd (cc n) ]
  insert-held x (y ∷ ys) a h = by_test (insert-held x ys a) (nat_le (rank x) (rank y)) h
    where
      by_test : (holds (insert x ys) a ≡ true → (a ≡ x) ⊎ (holds ys a ≡ true)) → (b : Bool) → holds (if b then x ∷ y ∷ ys else y ∷ insert x ys) a ≡ true → (a ≡ x) ⊎ (holds (y ∷ ys) a ≡ true)
      by_test later true k = elim (or-cases (nat_eq a x) (holds (y ∷ ys) a) k) [ inl e ↦ inl (same-number a x e) | inr r ↦ inr r ]
      by_test later false k = elim (or-cases (nat_eq a y) (holds (insert x ys) a) k) [
        | inl e ↦ inr (or-first (nat_eq a y) (holds ys a) e)
        | inr r ↦ elim (later r) [ inl e ↦ inl e | inr q ↦ inr (or-second (nat_eq a y) (holds ys a) q) ]
      ]

  insert-there : (x : ℕ) (ys : List ℕ) → holds (insert x ys) x ≡ true
  unfolding insert
  insert-there x [] = or-first (nat_eq x x) false (number-same x)
  insert-there x (y ∷ ys) = by_test (insert-there x ys) (nat_le (rank x) (rank y))
    where
      by_test : holds (insert x ys) x ≡ true → (b : Bool) → holds (if b then x ∷ y ∷ ys else y ∷ insert x ys) x ≡ true
      by_test later true = or-first (nat_eq x x) (holds (y ∷ ys) x) (number-same x)
      by_test later false = or-second (nat_eq x y) (holds (insert x ys) x) later

  insert-keeps : (x : ℕ) (ys : List ℕ) (a : ℕ) → holds ys a ≡ true → holds (insert x ys) a ≡ true
  unfolding insert
  insert-keeps x [] a h = absurd (cc h)
  insert-keeps x (y ∷ ys) a h = by_test (insert-keeps x ys a) (nat_le (rank x) (rank y))
    where
      by_test : (holds ys a ≡ true → holds (insert x ys) a ≡ true) → (b : Bool) → holds (if b then x ∷ y ∷ ys else y ∷ insert x ys) a ≡ true
      by_test later true = or-second (nat_eq a x) (holds (y ∷ ys) a) h
      by_test later false = elim (or-cases (nat_eq a y) (holds ys a) h) [
        | inl e ↦ or-first (nat_eq a y) (holds (insert x ys) a) e
        | inr r ↦ or-second (nat_eq a y) (holds (insert x ys) a) (later r)
      ]

  insert-all : (P : ℕ → Type 0) (x : ℕ) (ys : List ℕ) → P x → AllByRecursion P ys → AllByRecursion P (insert x ys)
  unfolding insert
  insert-all P x [] p h = (p, tt)
  insert-all P x (y ∷ ys) p h = by_test (insert-all P x ys p h.1) (nat_le (rank x) (rank y))
    where
      by_test : AllByRecursion P (insert x ys) → (b : Bool) → AllByRecursion P (if b then x ∷ y ∷ ys else y ∷ insert x ys)
      by_test later true = (p, h)
      by_test later false = (h.0, later)

  apart-after : (x y : ℕ) → y < x → nat_eq x y ≡ false
  apart-after x y l = grind (arith, nat_tests, l)

  apart-before : (x y : ℕ) → y < x → nat_eq y x ≡ false
  apart-before x y l = grind (arith, nat_tests, l)

  insert-distinct : (x : ℕ) (ys : List ℕ) → AllByRecursion (λ y. y < x) ys → IsDistinct nat_eq ys → IsDistinct nat_eq (insert x ys)
  unfolding insert IsDistinct
  insert-distinct x [] l h = (tt, tt)
  insert-distinct x (y ∷ ys) l h = by_test (insert-distinct x ys l.1 h.1) (nat_le (rank x) (rank y))
    where
      by_test : IsDistinct nat_eq (insert x ys) → (b : Bool) → IsDistinct nat_eq (if b then x ∷ y ∷ ys else y ∷ insert x ys)
      by_test later true = (all-since (λ z. z < x) (λ z. nat_eq x z ≡ false) (apart-after x) (y ∷ ys) l, h)
      by_test later false = (insert-all (λ z. nat_eq y z ≡ false) x ys (apart-before x y l.0) h.0, later)

  -- Each is of no greater rank than those after it.
  abbrev IsRanked : List ℕ → Type 0
  IsRanked [] = ⊤
  IsRanked (x ∷ xs) = ((b : ℕ) → holds xs b ≡ true → rank x ≤ rank b) × IsRanked xs

  same-rank : (a b : ℕ) → a ≡ b → rank a ≡ rank b
  same-rank a b e = ap rank e

  insert-ranked : (x : ℕ) (ys : List ℕ) → IsRanked ys → IsRanked (insert x ys)
  unfolding insert
  insert-ranked x [] h = (λ b k. absurd (cc k), tt)
  insert-ranked x (y ∷ ys) h = by_test (insert-ranked x ys h.1) (nat_le (rank x) (rank y)) refl
    where
      above : rank x ≤ rank y → (b : ℕ) → holds (y ∷ ys) b ≡ true → rank x ≤ rank b
      above l b k = elim (or-cases (nat_eq b y) (holds ys b) k) [
        | inl e ↦ (let r = same-rank b y (same-number b y e) in omega (arith, l, r))
        | inr r ↦ (let m = h.0 b r in omega (arith, l, m))
      ]

      below : rank y ≤ rank x → (b : ℕ) → holds (insert x ys) b ≡ true → rank y ≤ rank b
      below l b k = elim (insert-held x ys b k) [
        | inl e ↦ (let r = same-rank b x e in omega (arith, l, r))
        | inr r ↦ h.0 b r
      ]

      by_test : IsRanked (insert x ys) → (b : Bool) → nat_le (rank x) (rank y) ≡ b → IsRanked (if b then x ∷ y ∷ ys else y ∷ insert x ys)
      by_test later true e = (above (grind (arith, nat_tests, e)), h)
      by_test later false e = (below (grind (arith, nat_tests, e)), later)

  pub in-front : (xs : List ℕ) → IsRanked xs → (i a b : ℕ) → slice_get xs i ≡ Some a → holds xs b ≡ true → rank b < rank a → holds (take i xs) b ≡ true
  in-front [] s i a b e h l = absurd (cc e)
  in-front (x ∷ xs) s zero a b e h l =
      let first : x ≡ a = cc e in
      let r = same-rank x a first in
      absurd (elim (or-cases (nat_eq b x) (holds xs b) h) [
        | inl k ↦ (let q = same-rank b x (same-number b x k) in omega (arith, l, r, q))
        | inr k ↦ (let m = s.0 b k in omega (arith, l, r, m))
      ])
  in-front (x ∷ xs) s (suc i) a b e h l = elim (or-cases (nat_eq b x) (holds xs b) h) [
    | inl k ↦ or-first (nat_eq b x) (holds (take i xs) b) k
    | inr k ↦ or-second (nat_eq b x) (holds (take i xs) b) (in-front xs s.1 i a b e k l)
  ]

  -- All numbers below.
  pub ranked : ℕ → List ℕ
  ranked zero = []
  ranked (suc k) = insert k (ranked k)

  pub ranked-long : (k : ℕ) → length (ranked k) ≡ k
  unfolding ranked
  ranked-long zero = refl
  ranked-long (suc k) = insert-long k (ranked k) ∙ ap suc (ranked-long k)

  pub ranked-below : (k : ℕ) → AllByRecursion (λ y. y < k) (ranked k)
  unfolding ranked
  ranked-below zero = tt
  ranked-below (suc k) = insert-all (λ y. y < suc k) k (ranked k) (omega arith) (all-since (λ y. y < k) (λ y. y < suc k) (λ y l. omega (arith, l)) (ranked k) (ranked-below k))

  pub ranked-all : (k a : ℕ) → a < k → holds (ranked k) a ≡ true
  unfolding ranked
  ranked-all zero a l = absurd (omega (arith, l))
  ranked-all (suc k) a l = by_test (λ below. ranked-all k a below) (nat_eq a k) refl
    where
      by_test : (a < k → holds (ranked k) a ≡ true) → (b : Bool) → nat_eq a k ≡ b → holds (insert k (ranked k)) a ≡ true
      by_test later true e = let P : ℕ → Type 0 = λ n. holds (insert k (ranked k)) n ≡ true in subst P (sym (same-number a k e)) (insert-there k (ranked k))
      by_test later false e = insert-keeps k (ranked k) a (later (let below : a < k = grind (arith, nat_tests, l, e) in below))

  pub ranked-once : (k : ℕ) → IsDistinct nat_eq (ranked k)
  unfolding ranked IsDistinct
  ranked-once zero = tt
  ranked-once (suc k) = insert-distinct k (ranked k) (ranked-below k) (ranked-once k)

  pub ranked-ranked : (k : ℕ) → IsRanked (ranked k)
  unfolding ranked
  ranked-ranked zero = tt
  ranked-ranked (suc k) = insert-ranked k (ranked k) (ranked-ranked k)
