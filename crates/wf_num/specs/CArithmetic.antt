-- The arithmetic of C in int, unsigned int and unsigned long long (ISO/IEC 9899:1999, 6.2.5, 6.2.6.2, 6.5.5 to 6.5.7), where
-- int has 32 bits in two's complement. Each operation is that of whole numbers on the operands' values; an unsigned type
-- takes what is left of the result modulo 2^N, and int has no result where int can't hold it.
use Rattle.std.specs.Prelude.{ℕ, ◌-◌, ◌%◌, ◌^◌, ◌<◌, ◌≡◌, ◌⊎◌, Bool, ◌&&◌, if◌then◌else◌, nat_lt, nat_eq, Option, Some, None, is_some, ℤ, pos, negsuc, ◌+ℤ◌, ◌-ℤ◌, ◌*ℤ◌, ◌≤ℤ◌, ◌<ℤ◌, int_le, int_div, int_rem, unsigned_abs}
use Rattle.std.specs.Int.{int_div_euclid}
use Rattle.wf_num.specs.declared.c_arithmetic.CTy.{CTy}
use Rattle.wf_num.specs.declared.c_arithmetic.CTy.TheVariants.{Int, U32, U64}

-- How many bits the type has.
abbrev pub c_width : CTy → ℕ
c_width Int = 32
c_width U32 = 32
c_width U64 = 64

-- The number from 0 to m - 1 that differs from z by a multiple of m.
abbrev pub modulo : ℤ → ℕ → ℕ
modulo (pos n) m = n % m
modulo (negsuc n) m = m - 1 - n % m

-- The value of 32 bits in two's complement: the highest bit counts -2^31.
abbrev pub twos_complement : ℕ → ℤ
twos_complement bits = if nat_lt bits (2 ^ 31) then pos bits else pos bits -ℤ pos (2 ^ 32)

-- The value that bits stand for: of 64 bits the low 32 count in the types of 32 bits.
abbrev pub c_value : CTy → ℕ → ℤ
c_value Int bits = twos_complement (bits % 2 ^ 32)
c_value U32 bits = pos (bits % 2 ^ 32)
c_value U64 bits = pos bits

-- int holds z: INT_MIN is -2^31 and INT_MAX is 2^31 - 1.
abbrev pub is_int : ℤ → Bool
is_int z = int_le (negsuc (2 ^ 31 - 1)) z && int_le z (pos (2 ^ 31 - 1))

-- The bits of an operation whose result as a whole number is z; None where the behavior is undefined.
abbrev pub c_result : CTy → ℤ → Option ℕ
c_result Int z = if is_int z then Some (modulo z (2 ^ 32)) else None
c_result U32 z = Some (modulo z (2 ^ 32))
c_result U64 z = Some (modulo z (2 ^ 64))

-- `+`, `-` and `*`.
abbrev pub c_sum : CTy → ℕ → ℕ → Option ℕ
c_sum ty a b = c_result ty (c_value ty a +ℤ c_value ty b)

abbrev pub c_difference : CTy → ℕ → ℕ → Option ℕ
c_difference ty a b = c_result ty (c_value ty a -ℤ c_value ty b)

abbrev pub c_product : CTy → ℕ → ℕ → Option ℕ
c_product ty a b = c_result ty (c_value ty a *ℤ c_value ty b)

-- `/`, toward zero; undefined where the divisor is 0.
abbrev pub c_quotient : CTy → ℕ → ℕ → Option ℕ
c_quotient ty a b =
    if nat_eq (unsigned_abs (c_value ty b)) 0 then None else c_result ty (int_div (c_value ty a) (c_value ty b))

-- `%`, with the dividend's sign; undefined where the quotient is.
abbrev pub c_remainder : CTy → ℕ → ℕ → Option ℕ
c_remainder ty a b =
    if is_some (c_quotient ty a b) then c_result ty (int_rem (c_value ty a) (c_value ty b)) else None

-- `<<`, where k is the right operand's value; undefined where k is not below the width, or the left value is negative.
abbrev pub c_shifted_left : CTy → ℕ → ℕ → Option ℕ
c_shifted_left ty a k =
    if nat_lt k (c_width ty) && int_le (pos 0) (c_value ty a) then c_result ty (c_value ty a *ℤ pos (2 ^ k)) else None

-- `>>`: the quotient by 2^k, rounded down; undefined where k is not below the width.
abbrev pub c_shifted_right : CTy → ℕ → ℕ → Option ℕ
c_shifted_right ty a k =
    if nat_lt k (c_width ty) then c_result ty (int_div_euclid (c_value ty a) (pos (2 ^ k))) else None

-- The type can represent z.
abbrev pub IsIn : CTy → ℤ → Type 0
IsIn Int z = (negsuc (2 ^ 31 - 1) ≤ℤ z) × (z ≤ℤ pos (2 ^ 31 - 1))
IsIn U32 z = (pos 0 ≤ℤ z) × (z <ℤ pos (2 ^ 32))
IsIn U64 z = (pos 0 ≤ℤ z) × (z <ℤ pos (2 ^ 64))

-- The bits carry the whole number z: no bit above the type's width is set, and where the type can represent z, z is their value.
pub record Carries (ty : CTy) (z : ℤ) (bits : ℕ) : Type 0 where
  pub narrow : bits < 2 ^ c_width ty
  pub same : IsIn ty z → c_value ty bits ≡ z

-- z is the result of an operation on ints, and int can't hold it.
abbrev pub Overflows : CTy → ℤ → Type 0
Overflows ty z = (ty ≡ Int) × ((z <ℤ negsuc (2 ^ 31 - 1)) ⊎ (pos (2 ^ 31 - 1) <ℤ z))

-- `a / b` and `a % b` are undefined: the divisor is 0, or the least int is divided by -1.
abbrev pub HasNoQuotient : CTy → ℕ → ℕ → Type 0
HasNoQuotient ty a b =
    (c_value ty b ≡ pos 0) ⊎ ((ty ≡ Int) × ((c_value ty a ≡ negsuc (2 ^ 31 - 1)) × (c_value ty b ≡ negsuc 0)))
