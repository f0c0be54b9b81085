-- Operators have the value of whole numbers wherever their type can represent it.
use Rattle.std.proofs.Common.{◌≡◌, ℕ, zero, suc, ◌-◌, ◌%◌, ◌^◌, ◌<◌, Bool, true, false, Option, Some, None, refl, subst, ◌⊎◌, inl, inr, IsNone, ◌↔◌, ap, arith, ℤ, pos, negsuc, ◌+ℤ◌, ◌-ℤ◌, ◌*ℤ◌}
use Rattle.std.specs.Prelude.{if◌then◌else◌, nat_eq, nat_lt, ◌&&◌, int_le, int_div, int_rem, is_some, unsigned_abs}
use Rattle.std.specs.Int.{int_div_euclid}
use Rattle.std.proofs.lemmas.Int.{ints}
use Rattle.std.proofs.lemmas.Bool.Decides.{nat_tests}
use Rattle.wf_num.specs.declared.c_arithmetic.CTy.{CTy}
use Rattle.wf_num.specs.declared.c_arithmetic.CTy.TheVariants.{Int, U32, U64}
use Rattle.wf_num.specs.CArithmetic.{c_width, modulo, c_value, is_int, c_result, c_sum, c_difference, c_product, c_quotient, c_remainder, c_shifted_left, c_shifted_right, IsIn, Carries, Overflows}
use Rattle.wf_num.proofs.CLaws.{undefined-by, remainder-in}
use Rattle.c_text.specs.declared.kinds.COp.TheVariants.{Add, Sub, Mul, Div, Rem, Shl, Shr}
use Rattle.c_meaning.specs.CValues.{Number, number, whole, converted, common, of_type, operated}
use Rattle.c_meaning.specs.COperators.{Gives}

narrow : (z : ℤ) (m : ℕ) → 0 < m → modulo z m < m
narrow (pos n) m h = omega arith
narrow (negsuc n) m h = omega arith

-- What is left of z modulo 2^N has the value z where the type can represent z.
same : (ty : CTy) (z : ℤ) → IsIn ty z → c_value ty (modulo z (2 ^ c_width ty)) ≡ z
same Int (pos n) h =
    let small : n < 2 ^ 31 = omega (arith, ints, h.1) in
    let e : (n % 2 ^ 32) % 2 ^ 32 ≡ n = omega arith in
    let t : nat_lt n (2 ^ 31) ≡ true = grind (arith, nat_tests) in rw (e, t) refl
same Int (negsuc n) h =
    let small : n < 2 ^ 31 = omega (arith, ints, h.0) in
    let e : (2 ^ 32 - 1 - n % 2 ^ 32) % 2 ^ 32 ≡ 2 ^ 32 - 1 - n = omega arith in
    let t : nat_lt (2 ^ 32 - 1 - n) (2 ^ 31) ≡ false = grind (arith, nat_tests) in
    let v : pos (2 ^ 32 - 1 - n) -ℤ pos (2 ^ 32) ≡ negsuc n = omega (arith, ints) in rw (e, t) v
same U32 (pos n) h =
    let small : n < 2 ^ 32 = omega (arith, ints, h.1) in
    let e : (n % 2 ^ 32) % 2 ^ 32 ≡ n = omega arith in ap pos e
same U32 (negsuc n) h = absurd (omega (arith, ints, h.0))
same U64 (pos n) h =
    let small : n < 2 ^ 64 = omega (arith, ints, h.1) in
    let e : n % 2 ^ 64 ≡ n = omega arith in ap pos e
same U64 (negsuc n) h = absurd (omega (arith, ints, h.0))

positive : (ty : CTy) → 0 < 2 ^ c_width ty
positive Int = omega arith
positive U32 = omega arith
positive U64 = omega arith

modulo_carries : (ty : CTy) (z : ℤ) → Carries ty z (modulo z (2 ^ c_width ty))
modulo_carries ty z = record { narrow = narrow z (2 ^ c_width ty) (positive ty); same = same ty z }

if_some : (b : Bool) (x y : ℕ) → (if b then Some x else None) ≡ Some y → x ≡ y
if_some true x y e = cc (e)
if_some false x y e = absurd (cc (e))

pub result_carries : (ty : CTy) (z : ℤ) (bits : ℕ) → c_result ty z ≡ Some bits → Carries ty z bits
result_carries Int z bits e = subst (λ (n : ℕ). Carries Int z n) (if_some (is_int z) _ _ e) (modulo_carries Int z)
result_carries U32 z bits e = let s : modulo z (2 ^ 32) ≡ bits = cc (e) in subst (λ (n : ℕ). Carries U32 z n) s (modulo_carries U32 z)
result_carries U64 z bits e = let s : modulo z (2 ^ 64) ≡ bits = cc (e) in subst (λ (n : ℕ). Carries U64 z n) s (modulo_carries U64 z)

given : (type : CTy) (z : ℤ) (o : Option ℕ) (r : Number) → ((bits : ℕ) → o ≡ Some bits → c_result type z ≡ Some bits) → of_type type o ≡ Some r → Gives type z r
given type z None r f e = absurd (cc (e))
given type z (Some bits) r f e =
    let s : number type bits ≡ r = cc (e) in
    subst (λ (x : Number). Gives type z x) s (record { type_is = refl; value = result_carries type z bits (f bits refl) })

unless : (b : Bool) (o : Option ℕ) (bits : ℕ) → (if b then None else o) ≡ Some bits → o ≡ Some bits
unless true o bits e = absurd (cc (e))
unless false o bits e = e

when : (b : Bool) (o : Option ℕ) (bits : ℕ) → (if b then o else None) ≡ Some bits → o ≡ Some bits
when true o bits e = e
when false o bits e = absurd (cc (e))

module _ (a b r : Number) where
  abbrev type : CTy
  type = common a.ty b.ty

  abbrev left : Number
  left = converted type a

  abbrev right : Number
  right = converted type b

  pub sum_gives : operated Add a b ≡ Some r → Gives type (whole left +ℤ whole right) r
  sum_gives e = given type _ (c_sum type left.bits right.bits) r (λ bits f. f) e

  pub difference_gives : operated Sub a b ≡ Some r → Gives type (whole left -ℤ whole right) r
  difference_gives e = given type _ (c_difference type left.bits right.bits) r (λ bits f. f) e

  pub product_gives : operated Mul a b ≡ Some r → Gives type (whole left *ℤ whole right) r
  product_gives e = given type _ (c_product type left.bits right.bits) r (λ bits f. f) e

  pub quotient_gives : operated Div a b ≡ Some r → Gives type (int_div (whole left) (whole right)) r
  quotient_gives e = given type _ (c_quotient type left.bits right.bits) r (λ bits f. unless (nat_eq (unsigned_abs (whole right)) 0) _ bits f) e

  pub remainder_gives : operated Rem a b ≡ Some r → Gives type (int_rem (whole left) (whole right)) r
  remainder_gives e = given type _ (c_remainder type left.bits right.bits) r (λ bits f. when (is_some (c_quotient type left.bits right.bits)) _ bits f) e

  pub shifted_left_gives : operated Shl a b ≡ Some r → Gives a.ty (whole a *ℤ pos (2 ^ b.bits)) r
  shifted_left_gives e = given a.ty _ (c_shifted_left a.ty a.bits b.bits) r (λ bits f. when (nat_lt b.bits (c_width a.ty) && int_le (pos 0) (whole a)) _ bits f) e

  pub shifted_right_gives : operated Shr a b ≡ Some r → Gives a.ty (int_div_euclid (whole a) (pos (2 ^ b.bits))) r
  shifted_right_gives e = given a.ty _ (c_shifted_right a.ty a.bits b.bits) r (λ bits f. when (nat_lt b.bits (c_width a.ty)) _ bits f) e

-- A conversion keeps the value where the type can represent it.
pub conversion_keeps : (type : CTy) (a : Number) → IsIn type (whole a) → whole (converted type a) ≡ whole a
conversion_keeps type a h = same type (whole a) h

-- Where an operator is undefined.
no_number : (type : CTy) (o : Option ℕ) → IsNone (of_type type o) → IsNone o
no_number type None e = refl
no_number type (Some bits) e = absurd (cc (e))

no_bits : (type : CTy) (o : Option ℕ) → IsNone o → IsNone (of_type type o)
no_bits type None e = refl
no_bits type (Some bits) e = absurd (cc (e))

overflow : (type : CTy) (z : ℤ) (o : Option ℕ) → o ≡ c_result type z → IsNone (of_type type o) ↔ Overflows type z
overflow type z o e = (λ n. (undefined-by type z o e).0 (no_number type o n), λ v. no_bits type o ((undefined-by type z o e).1 v))

none_unless : (b : Bool) (o : Option ℕ) → IsNone (if b then None else o) → (b ≡ true) ⊎ IsNone o
none_unless true o h = inl refl
none_unless false o h = inr h

none_when : (b : Bool) (o : Option ℕ) → IsNone (if b then o else None) → (b ≡ false) ⊎ IsNone o
none_when true o h = inr h
none_when false o h = inl refl

zero_abs : (z : ℤ) → nat_eq (unsigned_abs z) 0 ≡ true → z ≡ pos 0
zero_abs (pos zero) h = refl
zero_abs (pos (suc n)) h = absurd (grind (arith, nat_tests, h))
zero_abs (negsuc n) h = absurd (grind (arith, nat_tests, h))

module _ (a b : Number) where
  abbrev shared : CTy
  shared = common a.ty b.ty

  abbrev one : Number
  one = converted shared a

  abbrev two : Number
  two = converted shared b

  pub sum_undefined : IsNone (operated Add a b) ↔ Overflows shared (whole one +ℤ whole two)
  sum_undefined = overflow shared _ (c_sum shared one.bits two.bits) refl

  pub difference_undefined : IsNone (operated Sub a b) ↔ Overflows shared (whole one -ℤ whole two)
  difference_undefined = overflow shared _ (c_difference shared one.bits two.bits) refl

  pub product_undefined : IsNone (operated Mul a b) ↔ Overflows shared (whole one *ℤ whole two)
  product_undefined = overflow shared _ (c_product shared one.bits two.bits) refl

  no_quotient : IsNone (c_quotient shared one.bits two.bits) → (whole two ≡ pos 0) ⊎ Overflows shared (int_div (whole one) (whole two))
  no_quotient h = by_divisor (none_unless (nat_eq (unsigned_abs (whole two)) 0) (c_result shared (int_div (whole one) (whole two))) h)
    where
      by_divisor : (nat_eq (unsigned_abs (whole two)) 0 ≡ true) ⊎ IsNone (c_result shared (int_div (whole one) (whole two))) → (whole two ≡ pos 0) ⊎ Overflows shared (int_div (whole one) (whole two))
      by_divisor (inl z) = inl (zero_abs (whole two) z)
      by_divisor (inr n) = inr ((undefined-by shared (int_div (whole one) (whole two)) _ refl).0 n)

  pub quotient_undefined : IsNone (operated Div a b) → (whole two ≡ pos 0) ⊎ Overflows shared (int_div (whole one) (whole two))
  quotient_undefined e = no_quotient (no_number shared (c_quotient shared one.bits two.bits) e)

  pub remainder_undefined : IsNone (operated Rem a b) → (whole two ≡ pos 0) ⊎ Overflows shared (int_div (whole one) (whole two))
  remainder_undefined e = by_quotient (none_when (is_some (c_quotient shared one.bits two.bits)) (c_result shared (int_rem (whole one) (whole two))) (no_number shared (c_remainder shared one.bits two.bits) e))
    where
      by_quotient : (is_some (c_quotient shared one.bits two.bits) ≡ false) ⊎ IsNone (c_result shared (int_rem (whole one) (whole two))) → (whole two ≡ pos 0) ⊎ Overflows shared (int_div (whole one) (whole two))
      by_quotient (inl n) = no_quotient n
      by_quotient (inr n) = absurd (remainder-in shared one.bits (whole two) ((undefined-by shared (int_rem (whole one) (whole two)) _ refl).0 n))
