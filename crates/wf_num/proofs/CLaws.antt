-- Whole numbers in 128 bits: the values of C's types, their products, quotients and remainders fit.
use Rattle.std.proofs.Common.{ℕ, ℤ, pos, negsuc, suc, zero, ◌+◌, ◌-◌, ◌*◌, ◌/◌, ◌%◌, ◌^◌, ◌<◌, ◌≤◌, ◌≡◌, ◌-ℤ◌, ◌*ℤ◌, neg_ℤ, Some, nat_lt, ap, true, false, nat_eq, refl, arith, FitsSigned, of_z, ◌<ℤ◌, ◌⊎◌, inl, inr, Bool, Option, None, is_some, IsNone, if◌then◌else◌}
use Rattle.std.specs.Int.RustNames.{unsigned_abs, int_div, int_rem, int_le}
use Rattle.std.specs.Int.{w128}
use lib.Signed.{mag, mag_rem}
use Rattle.std.proofs.Math.Nat.{div-le_self, mod-le}
use Rattle.std.proofs.lemmas.Int.{ints, fits_signed_from_abs, fits_signed_mul}
use Rattle.std.proofs.lemmas.Bool.Decides.{nat_tests}
use Rattle.wf_num.specs.declared.c_arithmetic.CTy.{CTy}
use Rattle.wf_num.specs.declared.c_arithmetic.CTy.TheVariants.{Int, U32, U64}
use Rattle.wf_num.specs.CArithmetic.{Overflows, modulo, c_value, c_width, c_result, is_int, c_sum, c_difference, c_product, c_quotient, c_remainder, c_shifted_left, c_shifted_right}

-- A value is no farther from 0 than 2 to the type's width.
pub value-abs : (ty : CTy) (bits : ℕ) → bits < 2 ^ 64 → unsigned_abs (c_value ty bits) ≤ 2 ^ c_width ty
value-abs Int bits h = grind (arith, ints, nat_tests)
value-abs U32 bits h = omega arith
value-abs U64 bits h = omega arith

pub product-fits : (ty : CTy) (a b : ℕ) → c_width ty ≡ 32 → a < 2 ^ 64 → b < 2 ^ 64 → FitsSigned w128 (c_value ty a *ℤ c_value ty b)
product-fits ty a b narrow p q =
    fits_signed_mul w128 (c_value ty a) (c_value ty b) (2 ^ 32) (2 ^ 32)
    (rw narrow at (value-abs ty a p)) (rw narrow at (value-abs ty b q)) (omega arith)

-- A quotient is no farther from 0 than the dividend.
unsigned_abs-neg : (n : ℕ) → unsigned_abs (neg_ℤ (pos n)) ≡ n
unsigned_abs-neg zero = refl
unsigned_abs-neg (suc n) = refl

quotient-abs : (z d : ℤ) → unsigned_abs (int_div z d) ≤ unsigned_abs z
quotient-abs (pos a) (pos b) = div-le_self a b
quotient-abs (pos a) (negsuc b) = omega (arith, unsigned_abs-neg (a / suc b), div-le_self a (suc b))
quotient-abs (negsuc a) (pos b) = omega (arith, unsigned_abs-neg (suc a / b), div-le_self (suc a) b)
quotient-abs (negsuc a) (negsuc b) = div-le_self (suc a) (suc b)

pub quotient-fits : (ty : CTy) (a : ℕ) (d : ℤ) → a < 2 ^ 64 → FitsSigned w128 (int_div (c_value ty a) d)
quotient-fits ty a d p = fits_signed_from_abs w128 _ (below ty (omega (arith, quotient-abs (c_value ty a) d, value-abs ty a p))) where
  below : (ty : CTy) {n : ℕ} → n ≤ 2 ^ c_width ty → n < 2 ^ 127
  below Int h = omega arith
  below U32 h = omega arith
  below U64 h = omega arith

pub nonzero : (z : ℤ) → (of_z w128 z ≡ 0 → ⊥) → nat_eq (unsigned_abs z) 0 ≡ false
nonzero (pos n) h = grind (arith, nat_tests)
nonzero (negsuc n) h = grind (arith, nat_tests)

-- ---- operands and results that are plain numbers of the type

-- The numbers below this one are the type's, and those of no sign.
abbrev pub c_limit : CTy → ℕ
c_limit Int = 2 ^ 31
c_limit U32 = 2 ^ 32
c_limit U64 = 2 ^ 64

pub c_value-whole : (ty : CTy) (n : ℕ) → n < c_limit ty → c_value ty n ≡ pos n
c_value-whole Int n h =
    let e : n % 2 ^ 32 ≡ n = omega arith in
    let t : nat_lt n (2 ^ 31) ≡ true = grind (arith, nat_tests) in rw (e, t) refl
c_value-whole U32 n h = let e : n % 2 ^ 32 ≡ n = omega arith in ap pos e
c_value-whole U64 n h = refl

pub c_result-whole : (ty : CTy) (n : ℕ) → n < c_limit ty → c_result ty (pos n) ≡ Some n
c_result-whole Int n h =
    let e : n % 2 ^ 32 ≡ n = omega arith in
    let t : is_int (pos n) ≡ true = grind (arith, nat_tests) in rw (e, t) refl
c_result-whole U32 n h = let e : n % 2 ^ 32 ≡ n = omega arith in ap Some e
c_result-whole U64 n h = let e : n % 2 ^ 64 ≡ n = omega arith in ap Some e

pub c_sum-whole : (ty : CTy) (a b : ℕ) → a < c_limit ty → b < c_limit ty → a + b < c_limit ty → c_sum ty a b ≡ Some (a + b)
c_sum-whole ty a b p q r = rw (c_value-whole ty a p, c_value-whole ty b q) (c_result-whole ty (a + b) r)

pub c_difference-whole : (ty : CTy) (a b : ℕ) → a < c_limit ty → b ≤ a → c_difference ty a b ≡ Some (a - b)
c_difference-whole ty a b p le =
    let e : pos a -ℤ pos b ≡ pos (a - b) = omega (arith, ints) in
    rw (c_value-whole ty a p, c_value-whole ty b (omega arith), e) (c_result-whole ty (a - b) (omega arith))

pub c_product-whole : (ty : CTy) (a b : ℕ) → a < c_limit ty → b < c_limit ty → a * b < c_limit ty → c_product ty a b ≡ Some (a * b)
c_product-whole ty a b p q r = rw (c_value-whole ty a p, c_value-whole ty b q) (c_result-whole ty (a * b) r)

pub c_quotient-whole : (ty : CTy) (a b : ℕ) → a < c_limit ty → b < c_limit ty → 0 < b → c_quotient ty a b ≡ Some (a / b)
c_quotient-whole ty a b p q r =
    let t : nat_eq b 0 ≡ false = grind (arith, nat_tests) in
    rw (c_value-whole ty a p, c_value-whole ty b q, t) (c_result-whole ty (a / b) (omega (arith, div-le_self a b)))

pub c_remainder-whole : (ty : CTy) (a b : ℕ) → a < c_limit ty → b < c_limit ty → 0 < b → c_remainder ty a b ≡ Some (a % b)
c_remainder-whole ty a b p q r =
    rw (c_quotient-whole ty a b p q r, c_value-whole ty a p, c_value-whole ty b q) (c_result-whole ty (a % b) (omega (arith, mod-le a b)))

pub c_shifted_left-whole : (ty : CTy) (a k : ℕ) → k < c_width ty → a < c_limit ty → a * 2 ^ k < c_limit ty → c_shifted_left ty a k ≡ Some (a * 2 ^ k)
c_shifted_left-whole ty a k narrow p r =
    let t : nat_lt k (c_width ty) ≡ true = grind (arith, nat_tests) in
    let s : int_le (pos 0) (pos a) ≡ true = grind (arith, nat_tests) in
    rw (t, c_value-whole ty a p, s) (c_result-whole ty (a * 2 ^ k) r)

pub c_shifted_right-whole : (ty : CTy) (a k : ℕ) → k < c_width ty → a < c_limit ty → c_shifted_right ty a k ≡ Some (a / 2 ^ k)
c_shifted_right-whole ty a k narrow p =
    let t : nat_lt k (c_width ty) ≡ true = grind (arith, nat_tests) in
    rw (t, c_value-whole ty a p) (c_result-whole ty (a / 2 ^ k) (omega (arith, div-le_self a (2 ^ k))))

-- ---- where an operation is undefined

in_int : (z : ℤ) → mag z < 2 ^ 31 → is_int z ≡ true
in_int (pos n) h = grind (arith, nat_tests)
in_int (negsuc n) h = grind (arith, nat_tests)

over_int : (z : ℤ) → is_int z ≡ false → (z <ℤ negsuc (2 ^ 31 - 1)) ⊎ (pos (2 ^ 31 - 1) <ℤ z)
over_int (pos n) h = inr (grind (arith, ints, nat_tests))
over_int (negsuc n) h = inl (grind (arith, ints, nat_tests))

outside : (z : ℤ) → is_int z ≡ true → (z <ℤ negsuc (2 ^ 31 - 1)) ⊎ (pos (2 ^ 31 - 1) <ℤ z) → ⊥
outside (pos n) h o = grind (arith, ints, nat_tests)
outside (negsuc n) h o = grind (arith, ints, nat_tests)

-- None is answered where int can't hold the result, and only there.
pub undefined-by : (ty : CTy) (z : ℤ) (r : Option ℕ) → r ≡ c_result ty z → (IsNone r → Overflows ty z) × (Overflows ty z → IsNone r)
undefined-by Int z r e = at_test (is_int z) refl r e where
  at_test : (b : Bool) → is_int z ≡ b → (r : Option ℕ) → r ≡ (if b then Some (modulo z (2 ^ 32)) else None) → (IsNone r → Overflows Int z) × (Overflows Int z → IsNone r)
  at_test true t r e = (λ n. absurd (cc (n, e)), λ o. absurd (outside z t o.1))
  at_test false t r e = (λ n. (refl, over_int z t), λ o. ap is_some e)
undefined-by U32 z r e = (λ n. absurd (cc (n, e)), λ o. absurd (cc (o.0)))
undefined-by U64 z r e = (λ n. absurd (cc (n, e)), λ o. absurd (cc (o.0)))

-- A remainder is never outside its type.
int-mag : (bits : ℕ) → mag (c_value Int bits) < 2 ^ 31
int-mag bits = grind (arith, ints, nat_tests)

pub remainder-in : (ty : CTy) (a : ℕ) (d : ℤ) → Overflows ty (int_rem (c_value ty a) d) → ⊥
remainder-in Int a d o =
    let fits : is_int (int_rem (c_value Int a) d) ≡ true =
    in_int (int_rem (c_value Int a) d) (omega (arith, mag_rem (c_value Int a) d, int-mag a)) in
    outside (int_rem (c_value Int a) d) fits o.1
remainder-in U32 a d o = absurd (cc (o.0))
remainder-in U64 a d o = absurd (cc (o.0))
