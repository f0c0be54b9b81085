-- A number that is spelt as one digit is that digit's, however large it may be.
use Rattle.std.proofs.Common.{◌≡◌, ℕ, zero, suc, ◌+◌, ◌/◌, ◌%◌, ◌<◌, ◌≤◌, Bool, true, false, List, [], ◌∷◌, length, refl, ap, arith}
use Rattle.std.specs.Prelude.{if◌then◌else◌, ◌==◌, nat_lt, decimal}
use Rattle.std.specs.Fmt.{digits, digits_onto, digit_glyph}
use Rattle.std.proofs.lemmas.Bool.Decides.{nat_tests}

longer : (k n : ℕ) (done : List ℕ) → length done ≤ length (digits_onto k 10 false n done)
longer zero n done = omega arith
longer (suc k) n done = by (n / 10 == 0) (longer k (n / 10) (digit_glyph false (n % 10) ∷ done))
  where
    by : (b : Bool) → length (digit_glyph false (n % 10) ∷ done) ≤ length (digits_onto k 10 false (n / 10) (digit_glyph false (n % 10) ∷ done))
        → length done ≤ length (if b then digit_glyph false (n % 10) ∷ done else digits_onto k 10 false (n / 10) (digit_glyph false (n % 10) ∷ done))
    by true h = omega arith
    by false h = omega (arith, h)

longer_still : (k n : ℕ) (done : List ℕ) → length done < length (digits_onto (suc k) 10 false n done)
longer_still k n done = by (n / 10 == 0) (longer k (n / 10) (digit_glyph false (n % 10) ∷ done))
  where
    by : (b : Bool) → length (digit_glyph false (n % 10) ∷ done) ≤ length (digits_onto k 10 false (n / 10) (digit_glyph false (n % 10) ∷ done))
        → length done < length (if b then digit_glyph false (n % 10) ∷ done else digits_onto k 10 false (n / 10) (digit_glyph false (n % 10) ∷ done))
    by true h = omega arith
    by false h = omega (arith, h)

spelt : (d n : ℕ) → d < 10 → n / 10 ≡ 0 → digit_glyph false (n % 10) ≡ 48 + d → n ≡ d
spelt d n few small own = by (nat_lt (n % 10) 10) own
  where
    by : (b : Bool) → (if b then 48 + n % 10 else 87 + n % 10) ≡ 48 + d → n ≡ d
    by true k = omega (arith, small, k)
    by false k = absurd (omega (arith, few, k))

pub only_digit : (d n : ℕ) → d < 10 → decimal n ≡ (48 + d) ∷ [] → n ≡ d
unfolding digits
only_digit d n few h = by (n / 10 == 0) refl h
  where
    by : (b : Bool) → (n / 10 == 0) ≡ b → (if b then digit_glyph false (n % 10) ∷ [] else digits_onto 63 10 false (n / 10) (digit_glyph false (n % 10) ∷ [])) ≡ (48 + d) ∷ [] → n ≡ d
    by true e k = spelt d n few (grind (arith, nat_tests, e)) (cc k)
    by false e k = absurd (omega (arith, longer_still 62 (n / 10) (digit_glyph false (n % 10) ∷ []), ap (λ (xs : List ℕ). length xs) k))
