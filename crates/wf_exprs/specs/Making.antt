-- Numbers and slices of C that a unit has, with the types that they have, and the expressions of the source that they are made of.
use Rattle.std.specs.Prelude.{◌≡◌, ◌<◌, ◌&&◌, ℕ, Bool, true, false, if◌then◌else◌, length, List, [], ◌∷◌, Option, None, Some, ⊤}
use Rattle.wf_base.specs.declared.marks.Mark.TheVariants.{Pure}
use Rattle.wf_ast.specs.WellTyped.{same_mark}
use Rattle.wf_base.specs.declared.base_methods.BaseSig.{BaseSig}
use Rattle.wf_base.specs.BaseTable.{bits_of, row_of}
use Rattle.wf_ast.specs.declared.numbers.ExprId.{ExprId}
use Rattle.wf_ast.specs.declared.typed_nodes.TypedNodes.{TypedNodes}
use Rattle.wf_ast.specs.declared.types.Ty.{Ty}
use Rattle.wf_ast.specs.declared.types.Ty.TheVariants as types
use Rattle.wf_ast.specs.TypedTree.{NumTree}
use Rattle.wf_ast.specs.TypedTrees.{OperatorKind, arithmetic, ordering, joining, type_of_node}
use Rattle.wf_ast.specs.TypedInvariant.{has_kind}
use Rattle.wf_ast.specs.NodeKinds.{is_number_at, is_num}
use Rattle.c_text.specs.declared.kinds.COp.{COp}
use Rattle.c_text.specs.declared.kinds.COp.TheVariants.{Both, Either}
use Rattle.c_text.specs.CNodes.{Nodes, expr_of}
use Rattle.c_text.specs.declared.kinds.CNumber.TheVariants as literals
use Rattle.c_text.specs.CTree as c
use Rattle.c_text.specs.CTree.{ExprTree, Operands, no_operand, operand}
use Rattle.wf_exprs.specs.Exprs.{Rated, Pair, rated, op_of, order_op, linked, balanced, lowered_expr}
use Rattle.wf_exprs.specs.Names.{Names}
use Rattle.wf_exprs.specs.Words.{two}
use Rattle.wf_exprs.specs.Grown.{HasExpr}
use Rattle.wf_exprs.specs.declared.rated.Rated.{Rated as RatedNode}
use Rattle.wf_exprs.specs.declared.rated.Pair.{Pair as PairNode}

-- What a number of the unit is.
abbrev pub rated_in : Nodes → RatedNode → Rated
rated_in nodes a = rated (expr_of nodes a.code.0) a.ty

abbrev pub pair_in : Nodes → PairNode → Pair
pair_in nodes a = record { pointer = expr_of nodes a.pointer.0; length = rated_in nodes a.length }

-- The number of an expression that is a literal below 2^32.
abbrev pub small_number : ExprTree → Option ℕ
small_number (c.number (literals.Int n)) = Some n
small_number (c.number (literals.Unsigned n)) = Some n
small_number e = None

-- The unit has this number with this type.
pub record HasRated (nodes : Nodes) (a : RatedNode) (it : Rated) : Type 0 where
  pub code : HasExpr nodes a.code.0 it.code
  pub ty : a.ty ≡ it.ty

pub record HasPair (nodes : Nodes) (a : PairNode) (it : Pair) : Type 0 where
  pub pointer : HasExpr nodes a.pointer.0 it.pointer
  pub length : HasRated nodes a.length it.length

abbrev pub HasEnd : Nodes → Option RatedNode → Option Rated → Type 0
HasEnd nodes None None = ⊤
HasEnd nodes (Some a) (Some it) = HasRated nodes a it
HasEnd nodes a it = ⊥

-- An operator of the source as one of C, whatever it gives.
abbrev pub c_op : OperatorKind → COp
c_op (arithmetic op) = op_of op
c_op (ordering op) = order_op op
c_op (joining both) = if both then Both else Either

-- Two operands with an operator between them.
abbrev pub linked_by : OperatorKind → (bits : ℕ) → Rated → Rated → ExprTree
linked_by (arithmetic op) bits a b = linked op bits false a b
linked_by sort bits a b = two (c_op sort) (balanced bits a b) b.code

-- A base method answers with a number.
abbrev pub answers_number : TypedNodes → BaseSig → ExprId → Bool
answers_number nodes sig on = same_mark (row_of sig).mark Pure && (has_kind (row_of sig).on (type_of_node nodes on.0) && is_num (row_of sig).gives)

-- The end of a part, if there is one, is a number.
abbrev pub is_end : TypedNodes → Option ExprId → Bool
is_end nodes None = true
is_end nodes (Some e) = is_number_at nodes e

-- How wide a number is, or a slice's or an array's elements.
abbrev pub bits_at : Ty → ℕ
bits_at (types.Num width lo hi) = bits_of width
bits_at (types.Slice width) = bits_of width
bits_at (types.Array width lo hi count) = bits_of width
bits_at ty = 0

-- The further operands of one operation of C.
abbrev pub operands_of : Names → List NumTree → Operands
operands_of names [] = no_operand
operands_of names (t ∷ ts) = operand (lowered_expr names t) (operands_of names ts)

-- What a pair or an end names is there.
abbrev pub HasPairAt : Nodes → PairNode → Type 0
HasPairAt nodes a = (a.pointer.0 < length nodes.exprs) × (a.length.code.0 < length nodes.exprs)

abbrev pub HasEndAt : Nodes → Option RatedNode → Type 0
HasEndAt nodes None = ⊤
HasEndAt nodes (Some a) = a.code.0 < length nodes.exprs
