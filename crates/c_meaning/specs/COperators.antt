-- What an operator gives, as a law says it (ISO/IEC 9899:1999, 6.3.1.8, 6.5.5 to 6.5.12).
use Rattle.std.specs.Prelude.{◌≡◌, ℤ}
use Rattle.wf_num.specs.declared.c_arithmetic.CTy.{CTy}
use Rattle.wf_num.specs.CArithmetic.{Carries}
use Rattle.c_meaning.specs.CValues.{Number, whole, common, converted}

-- The number has this type, and its bits carry the whole number z: it is z wherever the type can represent z.
pub record Gives (type : CTy) (z : ℤ) (r : Number) : Type 0 where
  pub type_is : r.ty ≡ type
  pub value : Carries type z r.bits

-- The type of two operands, and the whole numbers that they are in this type.
abbrev pub both : Number → Number → CTy
both a b = common a.ty b.ty

abbrev pub left : Number → Number → ℤ
left a b = whole (converted (both a b) a)

abbrev pub right : Number → Number → ℤ
right a b = whole (converted (both a b) b)
