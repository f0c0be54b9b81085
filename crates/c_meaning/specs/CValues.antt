-- The values of C: numbers and pointers, the conversions between types, and the operators (ISO/IEC 9899:1999, 6.2.5,
-- 6.3 and 6.5). The arithmetic of whole numbers of a type is that of `CArithmetic`.
use Rattle.std.specs.Prelude.{ℕ, ◌^◌, Bool, true, false, not, ◌&&◌, if◌then◌else◌, nat_eq, Option, Some, None, option_map, ℤ, int_lt, int_le, bit_and, bit_or, bit_xor, ◌-◌}
use Rattle.wf_num.specs.declared.c_arithmetic.CTy.{CTy}
use Rattle.wf_num.specs.declared.c_arithmetic.CTy.TheVariants.{Int, U32, U64}
use Rattle.wf_num.specs.CArithmetic.{c_value, c_width, modulo, c_sum, c_difference, c_product, c_quotient, c_remainder, c_shifted_left, c_shifted_right}
use Rattle.c_text.specs.declared.kinds.CNumber.{CNumber}
use Rattle.c_text.specs.declared.kinds.CNumber.TheVariants as literal
use Rattle.c_text.specs.declared.kinds.COp.{COp}
use Rattle.c_text.specs.declared.kinds.COp.TheVariants.{Add, Sub, Mul, Div, Rem, Shl, Shr, BitAnd, BitOr, BitXor, Lt, Le, Gt, Ge, Eq, Ne, Both, Either}
pub use Rattle.c_meaning.specs.declared.values.Number.{Number}
pub use Rattle.c_meaning.specs.declared.values.Pointer.{Pointer}
pub use Rattle.c_meaning.specs.declared.values.CValue.{CValue}
pub use Rattle.c_meaning.specs.declared.values.CValue.TheVariants.{Numeric as numeric, Address as address, NullPointer as null_pointer}

-- A number of a type, by its bits (6.2.6.2).
abbrev pub number : CTy → ℕ → Number
number type bits = record { ty = type; bits = bits }

-- The whole number that it is (6.2.6.2).
abbrev pub whole : Number → ℤ
whole n = c_value n.ty n.bits

-- The pointer to a whole object (6.5.3.2p3).
abbrev pub to_object : ℕ → Pointer
to_object k = record { object = k; field = 0; index = 0 }

-- The value of a literal (6.4.4.1).
abbrev pub literal_number : CNumber → Number
literal_number (literal.Int n) = number Int n
literal_number (literal.Unsigned n) = number U32 n
literal_number (literal.Long n) = number U64 n

-- Conversion of a number to a type (6.3.1.3).
abbrev pub converted : CTy → Number → Number
converted type n = number type (modulo (whole n) (2 ^ c_width type))

-- The type of two operands after the usual arithmetic conversions (6.3.1.8).
abbrev pub common : CTy → CTy → CTy
common U64 b = U64
common U32 U64 = U64
common U32 b = U32
common Int b = b

-- 1 where it holds, else 0 (6.5.8p6).
abbrev pub truth : Bool → Number
truth b = number Int (if b then 1 else 0)

-- A condition holds where its value isn't 0 (6.8.4.1p2), a pointer where it isn't null.
abbrev pub is_nonzero : Number → Bool
is_nonzero n = not (nat_eq n.bits 0)

-- The same of any value; a null pointer doesn't hold (6.8.4.1p2).
abbrev pub holds : CValue → Bool
holds (numeric n) = is_nonzero n
holds (address p) = true
holds null_pointer = false

-- The number of a type that bits are, where an operation has given bits (6.3.1.3).
abbrev pub of_type : CTy → Option ℕ → Option Number
of_type type bits = option_map (number type) bits

-- `a op b` where both have been converted to one type (6.5.5, 6.5.6, 6.5.10 to 6.5.12).
abbrev pub arithmetic : COp → CTy → ℕ → ℕ → Option ℕ
arithmetic Add type a b = c_sum type a b
arithmetic Sub type a b = c_difference type a b
arithmetic Mul type a b = c_product type a b
arithmetic Div type a b = c_quotient type a b
arithmetic Rem type a b = c_remainder type a b
arithmetic BitAnd type a b = Some (bit_and a b)
arithmetic BitOr type a b = Some (bit_or a b)
arithmetic BitXor type a b = Some (bit_xor a b)
arithmetic _ type a b = None

-- `a op b` as a comparison of two whole numbers (6.5.8, 6.5.9).
abbrev pub compared : COp → ℤ → ℤ → Option Bool
compared Lt a b = Some (int_lt a b)
compared Le a b = Some (int_le a b)
compared Gt a b = Some (int_lt b a)
compared Ge a b = Some (int_le b a)
compared Eq a b = Some (int_le a b && int_le b a)
compared Ne a b = Some (not (int_le a b && int_le b a))
compared _ a b = None

-- A shift has its left operand's type (6.5.7p3), and is undefined where the right one is negative: as bits, a negative
-- int is above every width.
abbrev pub shifted : COp → Number → Number → Option ℕ
shifted Shl a b = c_shifted_left a.ty a.bits b.bits
shifted Shr a b = c_shifted_right a.ty a.bits b.bits
shifted _ a b = None

-- The kinds of operators (6.5.5 to 6.5.14).
pub data OpClass : Type 0 where
  arithmetics : OpClass
  comparison : OpClass
  shift : OpClass
  logic : OpClass

-- The kind of an operator (6.5.5 to 6.5.14).
abbrev pub class_of : COp → OpClass
class_of Shl = shift
class_of Shr = shift
class_of Lt = comparison
class_of Le = comparison
class_of Gt = comparison
class_of Ge = comparison
class_of Eq = comparison
class_of Ne = comparison
class_of Both = logic
class_of Either = logic
class_of _ = arithmetics

-- Operands of arithmetic and comparisons are brought to one type; those of a shift aren't (6.5.5 to 6.5.12).
abbrev pub operated_as : OpClass → COp → Number → Number → Option Number
operated_as arithmetics op a b = of_type (common a.ty b.ty) (arithmetic op (common a.ty b.ty) (converted (common a.ty b.ty) a).bits (converted (common a.ty b.ty) b).bits)
operated_as comparison op a b = option_map truth (compared op (whole (converted (common a.ty b.ty) a)) (whole (converted (common a.ty b.ty) b)))
operated_as shift op a b = of_type a.ty (shifted op a b)
operated_as logic op a b = None

-- `a op b` of two numbers; None where the behavior is undefined. `&&` and `||` don't stand here (6.5.5 to 6.5.12).
abbrev pub operated : COp → Number → Number → Option Number
operated op a b = operated_as (class_of op) op a b

-- `~a`: every bit of the promoted type is the other one (6.5.3.3p4).
abbrev pub complemented : Number → Number
complemented a = number a.ty (2 ^ c_width a.ty - 1 - a.bits)

-- `!a` (6.5.3.3p5).
abbrev pub negated : CValue → Number
negated v = truth (not (holds v))

-- Two pointers are equal where they name one place, or both are null; the literal 0 beside a pointer is null (6.5.9p6).
abbrev pub same_pointer : Pointer → Pointer → Bool
same_pointer p q = nat_eq p.object q.object && (nat_eq p.field q.field && nat_eq p.index q.index)

-- The same of two pointers, of which either may be null (6.5.9p6).
abbrev pub same_place : CValue → CValue → Bool
same_place (address p) (address q) = same_pointer p q
same_place (address p) other = false
same_place other (address q) = false
same_place other another = true

-- `p op q` where one of them is a pointer (6.5.8, 6.5.9): an order of pointers is undefined.
abbrev pub compared_places : COp → CValue → CValue → Option Number
compared_places Eq v w = Some (truth (same_place v w))
compared_places Ne v w = Some (truth (not (same_place v w)))
compared_places _ v w = None
