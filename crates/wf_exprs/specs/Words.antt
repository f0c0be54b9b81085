-- Short words for the C that lowering builds.
use Rattle.std.specs.Prelude.{ℕ, ◌^◌, List, [], ◌∷◌, if◌then◌else◌, nat_eq, nat_lt, codes}
use Rattle.c_text.specs.declared.kinds.CNumber.{CNumber}
use Rattle.c_text.specs.declared.kinds.CNumber.TheVariants.{Int, Unsigned, Long}
use Rattle.c_text.specs.declared.kinds.COp.{COp}
use Rattle.c_text.specs.declared.kinds.CUint.{CUint}
use Rattle.c_text.specs.declared.kinds.CUint.TheVariants.{U8, U16, U32, U64}
use Rattle.c_text.specs.CTree.{TypeTree, uint, ExprTree, number, variable, member, operation, no_operand, Args, no_arg, expr_arg}

-- A number as C spells it: of the narrowest type that holds it.
abbrev pub literal : ℕ → CNumber
literal n = if nat_lt n (2 ^ 31) then Int n else if nat_lt n (2 ^ 32) then Unsigned n else Long n

abbrev pub num : ℕ → ExprTree
num n = number (literal n)

abbrev pub width_of : (bits : ℕ) → CUint
width_of bits = if nat_eq bits 8 then U8 else if nat_eq bits 16 then U16 else if nat_eq bits 32 then U32 else U64

abbrev pub uint_of : (bits : ℕ) → TypeTree
uint_of bits = uint (width_of bits)

-- `(a op b)`, `self->NAME` and `a_src->NAME`
abbrev pub two : COp → ExprTree → ExprTree → ExprTree
two op a b = operation op a b no_operand

abbrev pub self : ExprTree
self = variable (codes "self")

abbrev pub of_self : List ℕ → ExprTree
of_self name = member self name

-- The arguments of a call.
abbrev pub args : List ExprTree → Args
args [] = no_arg
args (e ∷ es) = expr_arg e (args es)
