-- The kinds of operators, which operators may stand in a row, and which before an `=`.
use Rattle.std.specs.Prelude.{Bool, true, false, Option, None, Some}
use Rattle.wf_ast.specs.declared.operators.Op.{Op}
use Rattle.wf_ast.specs.declared.operators.Op.TheVariants as ops
use Rattle.wf_ast.specs.TypedTree.{Arith, plus, Order, equal}
use Rattle.wf_ast.specs.TypedTrees.{OperatorKind, arithmetic, ordering, joining, operator_kind}

-- An operator that gives a number, one that compares, and `and` or `or`.
abbrev pub is_arithmetic : OperatorKind → Bool
is_arithmetic (arithmetic op) = true
is_arithmetic sort = false

abbrev pub is_ordering : OperatorKind → Bool
is_ordering (ordering op) = true
is_ordering sort = false

abbrev pub is_joining : OperatorKind → Bool
is_joining (joining both) = true
is_joining sort = false

-- The operator of a chain of numbers, and the order of a comparison.
abbrev pub arith_in : OperatorKind → Arith
arith_in (arithmetic op) = op
arith_in sort = plus

abbrev pub order_in : OperatorKind → Order
order_in (ordering op) = op
order_in sort = equal

abbrev pub is_equal : Order → Bool
is_equal equal = true
is_equal op = false

-- The operators that may stand in a row.
abbrev pub repeats : Op → Bool
repeats ops.Add = true
repeats ops.Mul = true
repeats ops.BitAnd = true
repeats ops.BitOr = true
repeats ops.BitXor = true
repeats ops.And = true
repeats ops.Or = true
repeats op = false

-- The operator before an `=`, where there is one, gives a number.
abbrev pub updates : Option Op → Bool
updates None = true
updates (Some op) = is_arithmetic (operator_kind op)
