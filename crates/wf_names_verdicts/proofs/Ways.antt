-- In a graph over finitely many numbers there is a way from one to another, or there is none.
use Rattle.std.proofs.Common.{◌≡◌, ◌⊎◌, inl, inr, ℕ, zero, suc, ◌+◌, ◌<◌, ◌≤◌, Bool, true, false, ◌&&◌, ◌||◌, refl, ◌∙◌, ap, subst, arith}
use Rattle.graphs.specs.Graphs.{Path, last, more}

pub or-cases : (a b : Bool) → (a || b) ≡ true → (a ≡ true) ⊎ (b ≡ true)
or-cases true b h = inl refl
or-cases false b h = inr h

and-cases : (a b : Bool) → (a && b) ≡ true → (a ≡ true) × (b ≡ true)
and-cases true b h = (refl, h)
and-cases false b h = absurd (cc h)

pub or-first : (a b : Bool) → a ≡ true → (a || b) ≡ true
or-first a b h = ap (λ c. c || b) h

pub or-second : (a b : Bool) → b ≡ true → (a || b) ≡ true
or-second true b h = refl
or-second false b h = h

and-both : (a b : Bool) → a ≡ true → b ≡ true → (a && b) ≡ true
and-both a b h k = ap (λ c. c && b) h ∙ k

below-cases : (c k : ℕ) → c < suc k → (c < k) ⊎ (c ≡ k)
below-cases zero zero h = inr refl
below-cases zero (suc k) h = inl (omega arith)
below-cases (suc c) zero h = absurd (omega (arith, h))
below-cases (suc c) (suc k) h = elim (below-cases c k (omega (arith, h))) [ inl b ↦ inl (omega (arith, b)) | inr e ↦ inr (ap suc e) ]

not-true : (b : Bool) → (b ≡ true → ⊥) → b ≡ false
not-true true h = absurd (h refl)
not-true false h = refl

-- How many of the first numbers pass a test.
weight : Bool → ℕ
weight true = 1
weight false = 0

count : (ℕ → Bool) → ℕ → ℕ
count has zero = 0
count has (suc k) = weight (has k) + count has k

weight-more : (a b : Bool) → (a ≡ true → b ≡ true) → weight a ≤ weight b
unfolding weight
weight-more true b h = let e : b ≡ true = h refl in rw e (omega arith)
weight-more false b h = omega arith

count-more : (f g : ℕ → Bool) → ((b : ℕ) → f b ≡ true → g b ≡ true) → (k : ℕ) → count f k ≤ count g k
unfolding count
count-more f g since zero = omega arith
count-more f g since (suc k) = let one = weight-more (f k) (g k) (since k) in let rest = count-more f g since k in omega (arith, one, rest)

count-less : (f g : ℕ → Bool) → ((b : ℕ) → f b ≡ true → g b ≡ true) → (j k : ℕ) → j < k → g j ≡ true → f j ≡ false → count f k < count g k
unfolding count weight
count-less f g since j zero below h off = absurd (omega (arith, below))
count-less f g since j (suc k) below h off = by_number (λ l. count-less f g since j k l h off) (below-cases j k below)
  where
    sized : (a b m n : ℕ) → a ≡ weight false → b ≡ weight true → m ≤ n → a + m < b + n
    sized a b m n e f h = omega (arith, e, f, h)

    by_number : (j < k → count f k < count g k) → (j < k) ⊎ (j ≡ k) → weight (f k) + count f k < weight (g k) + count g k
    by_number less (inl l) = let one = weight-more (f k) (g k) (since k) in let rest = less l in omega (arith, one, rest)
    by_number less (inr e) =
        let rest = count-more f g since k in
        let none : weight (f k) ≡ weight false = ap weight (let P : ℕ → Type 0 = λ i. f i ≡ false in subst P e off) in
        let one : weight (g k) ≡ weight true = ap weight (let P : ℕ → Type 0 = λ i. g i ≡ true in subst P e h) in
        sized (weight (f k)) (weight (g k)) (count f k) (count g k) none one rest

module _ (step : ℕ → ℕ → Bool) where
  way-on : (a b c : ℕ) → Path step a b → Path step b c → Path step a c
  way-on _ _ c (last a b s) q = more a b c s q
  way-on _ _ c (more a b d s p) q = more a b c s (way-on b d c p q)

  -- The ways whose numbers on the way are below `k`.
  unfoldable pub through : ℕ → ℕ → ℕ → Bool
  through zero a b = step a b
  through (suc k) a b = through k a b || (through k a k && through k k b)

  through-way : (k a b : ℕ) → through k a b ≡ true → Path step a b
  unfolding through
  through-way zero a b h = last a b h
  through-way (suc k) a b h = elim (or-cases (through k a b) (through k a k && through k k b) h) [
    | inl p ↦ through-way k a b p
    | inr p ↦ let both = and-cases (through k a k) (through k k b) p in way-on a k b (through-way k a k both.0) (through-way k k b both.1)
  ]

  -- A step further.
  kept : (k a b : ℕ) → through k a b ≡ true → through (suc k) a b ≡ true
  unfolding through
  kept k a b h = or-first (through k a b) (through k a k && through k k b) h

  joined : (k a b : ℕ) → through k a k ≡ true → through k k b ≡ true → through (suc k) a b ≡ true
  unfolding through
  joined k a b h g = or-second (through k a b) (through k a k && through k k b) (and-both (through k a k) (through k k b) h g)

  parted : (k a b : ℕ) → through (suc k) a b ≡ true → (through k a b ≡ true) ⊎ ((through k a k ≡ true) × (through k k b ≡ true))
  unfolding through
  parted k a b h = elim (or-cases (through k a b) (through k a k && through k k b) h) [ inl p ↦ inl p | inr p ↦ inr (and-cases (through k a k) (through k k b) p) ]

  stepped : (k a b : ℕ) → step a b ≡ true → through k a b ≡ true
  unfolding through
  stepped zero a b h = h
  stepped (suc k) a b h = kept k a b (stepped k a b h)

  closed : (k a c b : ℕ) → c < k → through k a c ≡ true → through k c b ≡ true → through k a b ≡ true
  closed zero a c b below h g = absurd (omega (arith, below))
  closed (suc k) a c b below h g = by_number (λ x y z l p q. closed k x y z l p q) (below-cases c k below) (parted k a c h) (parted k c b g)
    where
      to-last : (through k a c ≡ true) ⊎ ((through k a k ≡ true) × (through k k c ≡ true)) → c ≡ k → through k a k ≡ true
      to-last (inl p) e = let P : ℕ → Type 0 = λ n. through k a n ≡ true in subst P e p
      to-last (inr p) e = p.0

      from-last : (through k c b ≡ true) ⊎ ((through k c k ≡ true) × (through k k b ≡ true)) → c ≡ k → through k k b ≡ true
      from-last (inl p) e = let P : ℕ → Type 0 = λ n. through k n b ≡ true in subst P e p
      from-last (inr p) e = p.1

      by_number : ((x y z : ℕ) → y < k → through k x y ≡ true → through k y z ≡ true → through k x z ≡ true) → (c < k) ⊎ (c ≡ k) → (through k a c ≡ true) ⊎ ((through k a k ≡ true) × (through k k c ≡ true))
          → (through k c b ≡ true) ⊎ ((through k c k ≡ true) × (through k k b ≡ true)) → through (suc k) a b ≡ true
      by_number on (inr e) p q = joined k a b (to-last p e) (from-last q e)
      by_number on (inl l) (inl p) (inl q) = kept k a b (on a c b l p q)
      by_number on (inl l) (inl p) (inr q) = joined k a b (on a c k l p q.0) q.1
      by_number on (inl l) (inr p) (inl q) = joined k a b p.0 (on k c b l p.1 q)
      by_number on (inl l) (inr p) (inr q) = joined k a b p.0 q.1

  module _ (n : ℕ) (within : (a b : ℕ) → step a b ≡ true → a < n) where
    begun : (a b : ℕ) → Path step a b → a < n
    begun _ _ (last a b s) = within a b s
    begun _ _ (more a b c s p) = within a b s

    way-through : (a b : ℕ) → Path step a b → through n a b ≡ true
    way-through _ _ (last a b s) = stepped n a b s
    way-through _ _ (more a b c s p) = closed n a b c (begun b c p) (stepped n a b s) (way-through b c p)

    pub way-or-none : (a b : ℕ) → Path step a b ⊎ (Path step a b → ⊥)
    way-or-none a b = by_test (through n a b) refl
      where
        by_test : (t : Bool) → through n a b ≡ t → Path step a b ⊎ (Path step a b → ⊥)
        by_test true e = inl (through-way n a b e)
        by_test false e = inr (λ p. let there = way-through a b p in cc (e, there))

    -- How many numbers a number has a way to. Where it has one to a number that has none back to itself, that one has fewer.
    pub reached : ℕ → ℕ
    reached a = count (through n a) n

    pub fewer : (a b : ℕ) → step a b ≡ true → (Path step b b → ⊥) → b < n → reached b < reached a
    unfolding reached
    fewer a b s off below = count-less (through n b) (through n a) (λ c h. way-through a c (more a b c s (through-way n b c h))) b n below (stepped n a b s) (not-true (through n b b) (λ h. off (through-way n b b h)))
