-- What two expressions, or an expression and a thing, have in common besides their parts.
use Rattle.std.specs.Prelude.{ℕ, Bool, true, false, ◌&&◌, ◌||◌, List, [], ◌∷◌, Option, nat_eq, is_some}
use Rattle.wf_base.specs.BaseTable.{bits_of}
use Rattle.wf_base.specs.declared.base_methods.BaseSig.{BaseSig}
use Rattle.wf_base.specs.declared.base_methods.BaseSig.TheVariants as sigs
use Rattle.wf_ast.specs.declared.numbers.ExprId.{ExprId}
use Rattle.wf_ast.specs.declared.operators.Op.{Op}
use Rattle.wf_ast.specs.declared.operators.Op.TheVariants as ops
use Rattle.wf_ast.specs.declared.things.Thing.{Thing}
use Rattle.wf_ast.specs.declared.types.Ty.{Ty}
use Rattle.wf_ast.specs.declared.types.Ty.TheVariants as types
use Rattle.wf_ast.specs.declared.typed_code.Expr.{Expr}
use Rattle.wf_ast.specs.declared.typed_code.Expr.TheVariants as exprs
use Rattle.wf_ast.specs.TypedTree.{ValueTree, local, field, arg}
use Rattle.wf_ast.specs.TypedTrees.{num_type}
use Rattle.wf_ast.specs.TypedInvariant.{is_list}
use Rattle.wf_ast.specs.Operators.{same_op}
use Rattle.wf_ast.specs.Value.{same_truth}
use Rattle.wf_ast.specs.Same.{same, peek_number}
use Rattle.wf_ast.specs.Mentions.{mentions, path_is, slice_is, is_element}

-- Variables of these types stand for values of one kind.
abbrev pub same_kind : (a b : Ty) → Bool
same_kind (types.Num width lo hi) (types.Num width' lo' hi') = true
same_kind types.Flag types.Flag = true
same_kind types.Status types.Status = true
same_kind types.Reader types.Reader = true
same_kind types.Reader types.Writer = true
same_kind types.Writer types.Reader = true
same_kind types.Writer types.Writer = true
same_kind (types.Slice width) (types.Slice width') = true
same_kind (types.Array width lo hi count) (types.Array width' lo' hi' count') = true
same_kind a b = false

-- The base methods that stand in expressions, by a number of their own; the length of a slice and that of an array have
-- one. All others have one.
abbrev pub answer_number : BaseSig → ℕ
answer_number (sigs.Peek form) = peek_number form
answer_number sigs.ReaderLength = 3
answer_number sigs.ReaderPosition = 4
answer_number sigs.WriterLength = 5
answer_number sigs.WriterPosition = 6
answer_number sigs.ReaderIsClosed = 7
answer_number (sigs.SliceLength width) = 8
answer_number (sigs.ArrayLength width) = 8
answer_number sigs.IsOk = 9
answer_number sigs.IsNote = 10
answer_number sigs.IsSuspension = 11
answer_number sigs.IsError = 12
answer_number sig = 13

abbrev pub same_answer : (a b : BaseSig) → Bool
same_answer a b = nat_eq (answer_number a) (answer_number b)

-- A shift has the width of its left side.
abbrev pub shift_width : Op → Ty → ℕ
shift_width ops.Shl ty = (num_type ty).bits
shift_width ops.Shr ty = (num_type ty).bits
shift_width ops.ModShl ty = (num_type ty).bits
shift_width op ty = 0

abbrev pub same_operator : (op op' : Op) (ty ty' : Ty) → Bool
same_operator op op' ty ty' = same_op op op' && nat_eq (shift_width op ty) (shift_width op' ty')

-- Both are there, or neither.
abbrev pub same_presence : (a b : Option ExprId) → Bool
same_presence a b = same_truth (is_some a) (is_some b)

-- Two expressions that are no constant numbers are alike but for their parts.
abbrev pub same_head : (ty ty' : Ty) → (a b : Expr) → Bool
same_head ty ty' (exprs.Status m) (exprs.Status n) = nat_eq m.0 n.0
same_head ty ty' (exprs.Truth b) (exprs.Truth c) = same_truth b c
same_head ty ty' (exprs.Local m) (exprs.Local n) = nat_eq m.0 n.0 && same_kind ty ty'
same_head ty ty' (exprs.Field m) (exprs.Field n) = nat_eq m.0 n.0 && same_kind ty ty'
same_head ty ty' (exprs.Arg m) (exprs.Arg n) = nat_eq m.0 n.0 && same_kind ty ty'
same_head ty ty' (exprs.Index base at) (exprs.Index base' at') = true
same_head ty ty' (exprs.Cut base from to) (exprs.Cut base' from' to') = same_presence from from' && same_presence to to'
same_head ty ty' (exprs.Chain op parts) (exprs.Chain op' parts') = same_operator op op' ty ty'
same_head ty ty' (exprs.Convert of to) (exprs.Convert of' to') = nat_eq (bits_of to) (bits_of to')
same_head ty ty' (exprs.Not of) (exprs.Not of') = true
same_head ty ty' (exprs.Base on sig) (exprs.Base on' sig') = same_answer sig sig'
same_head ty ty' a b = false

-- The parts are the same, one by one.
abbrev pub all_same : (ExprId → ValueTree) → (es fs : List ExprId) → Bool
all_same look [] [] = true
all_same look (e ∷ es) (f ∷ fs) = same (look e) (look f) && all_same look es fs
all_same look es fs = false

-- A local is meant by its number, and where it is a slice also as such.
abbrev pub local_is : Thing → Ty → ℕ → Bool
local_is x ty n = path_is x (local n) || (is_list ty && slice_is x (local n))

-- An expression that is no constant number mentions the thing by itself, whatever its parts mention.
abbrev pub head_mentions : Thing → Ty → Expr → Bool
head_mentions x ty (exprs.Local n) = local_is x ty n.0
head_mentions x ty (exprs.Field n) = path_is x (field n.0)
head_mentions x ty (exprs.Arg n) = path_is x (arg n.0)
head_mentions x ty (exprs.Index base at) = is_element x
head_mentions x ty expr = false

-- One of the parts mentions it.
abbrev pub any_mentions : (ExprId → ValueTree) → Thing → List ExprId → Bool
any_mentions look x [] = false
any_mentions look x (e ∷ es) = mentions (look e) x || any_mentions look x es
