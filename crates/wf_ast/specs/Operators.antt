-- Whether two operators are the same.
use Rattle.std.specs.Prelude.{ℕ, Bool, nat_eq}
use Rattle.wf_ast.specs.declared.operators.Op.{Op}
use Rattle.wf_ast.specs.declared.operators.Op.TheVariants as ops

-- The place of an operator in the list of operators.
abbrev pub op_number : Op → ℕ
op_number ops.Add = 0
op_number ops.Mul = 1
op_number ops.BitAnd = 2
op_number ops.BitOr = 3
op_number ops.BitXor = 4
op_number ops.And = 5
op_number ops.Or = 6
op_number ops.Sub = 7
op_number ops.Div = 8
op_number ops.Rem = 9
op_number ops.Shl = 10
op_number ops.Shr = 11
op_number ops.Same = 12
op_number ops.Differs = 13
op_number ops.Less = 14
op_number ops.LessOrSame = 15
op_number ops.Greater = 16
op_number ops.GreaterOrSame = 17
op_number ops.ModAdd = 18
op_number ops.ModSub = 19
op_number ops.ModMul = 20
op_number ops.ModShl = 21
op_number ops.SatAdd = 22
op_number ops.SatSub = 23

abbrev pub same_op : Op → Op → Bool
same_op a b = nat_eq (op_number a) (op_number b)
