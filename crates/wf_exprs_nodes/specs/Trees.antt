-- What becomes of the trees of nodes in C.
use Rattle.std.specs.Prelude.{◌&&◌, ℕ, Bool, true, false, if◌then◌else◌, List, [], ◌∷◌, Option, Some, None, nat_eq, nat_le, ⊤}
use Rattle.wf_base.specs.declared.marks.Mark.TheVariants.{Pure}
use Rattle.wf_base.specs.declared.base_methods.BaseSig.{BaseSig}
use Rattle.wf_base.specs.declared.base_methods.Gives.{Gives}
use Rattle.wf_base.specs.declared.base_methods.Gives.TheVariants as gives
use Rattle.wf_base.specs.BaseTable.{row_of}
use Rattle.wf_ast.specs.WellTyped.{same_mark}
use Rattle.wf_ast.specs.declared.types.Ty.{Ty}
use Rattle.wf_ast.specs.declared.types.Ty.TheVariants as types
use Rattle.wf_ast.specs.TypedTree.{Arith, plus, times, bits_and, bits_or, bits_xor, mod_minus, NumTree, CondTree, ValueTree, numeric, logical, state}
use Rattle.wf_ast.specs.TypedTrees.{OperatorKind, arithmetic, ordering, joining, num_in}
use Rattle.c_text.specs.declared.ids.CExprId.{CExprId}
use Rattle.c_text.specs.CNodes.{Nodes}
use Rattle.c_text.specs.CTree.{ExprTree, cast, Operands, no_operand, operand}
use Rattle.wf_exprs.specs.Names.{Names}
use Rattle.wf_exprs.specs.Exprs.{Rated, rated, calculated, place_code, given, lowered, lowered_expr, lowered_cond, lowered_status}
use Rattle.wf_exprs.specs.Grown.{HasExpr}
use Rattle.wf_exprs.specs.Making.{linked_by}
use Rattle.wf_exprs.specs.Words.{num, two, uint_of}
use Rattle.c_text.specs.declared.kinds.COp.TheVariants.{Add}

-- What is a single value in C.
abbrev pub is_single : Ty → Bool
is_single (types.Num width lo hi) = true
is_single types.Flag = true
is_single types.Status = true
is_single ty = false

-- The operators that repeat in C: a chain of them is one operation.
abbrev pub repeats_arith : Arith → Bool
repeats_arith plus = true
repeats_arith times = true
repeats_arith bits_and = true
repeats_arith bits_or = true
repeats_arith bits_xor = true
repeats_arith op = false

abbrev pub repeats : OperatorKind → Bool
repeats (arithmetic op) = repeats_arith op
repeats (joining both) = true
repeats (ordering op) = false

abbrev pub is_xor_arith : Arith → Bool
is_xor_arith bits_xor = true
is_xor_arith op = false

abbrev pub is_xor : OperatorKind → Bool
is_xor (arithmetic op) = is_xor_arith op
is_xor sort = false

-- Whether two operands are the complement of the left one or of the right one, by which of them is all ones.
abbrev pub complement_by : OperatorKind → (one other : Bool) → Option Bool
complement_by (arithmetic bits_xor) one other = if other then Some true else if one then Some false else None
complement_by (arithmetic mod_minus) one other = if one then Some false else None
complement_by sort one other = None

-- A chain on from what stands left of it, operand by operand.
abbrev pub chain_on : Names → OperatorKind → (bits : ℕ) → Rated → List NumTree → Rated
chain_on names sort bits left [] = left
chain_on names sort bits left (t ∷ ts) = chain_on names sort bits (rated (linked_by sort bits left (lowered names t)) (calculated bits)) ts

-- The operands of one operation after the second.
abbrev pub numbers_behind : Names → List NumTree → Operands
numbers_behind names [] = no_operand
numbers_behind names (t ∷ ts) = operand (lowered_expr names t) (numbers_behind names ts)

abbrev pub conditions_behind : Names → List CondTree → Operands
conditions_behind names [] = no_operand
conditions_behind names (t ∷ ts) = operand (lowered_cond names t) (conditions_behind names ts)

-- The unit has these operands.
abbrev pub HasOperands : Nodes → List CExprId → Operands → Type 0
HasOperands nodes [] no_operand = ⊤
HasOperands nodes (e ∷ es) (operand t ts) = HasExpr nodes e.0 t × HasOperands nodes es ts
HasOperands nodes [] (operand t ts) = ⊥
HasOperands nodes (e ∷ es) no_operand = ⊥

-- Parts of what a reader is asked for: the place of the next byte but k, and a byte in the type of a width.
abbrev pub place_behind : Names → ℕ → (k : ℕ) → ExprTree
place_behind names a k = if nat_eq k 0 then place_code names a else two Add (place_code names a) (num k)

abbrev pub widened : (bits : ℕ) → ExprTree → ExprTree
widened bits e = if nat_le bits 16 then e else cast (uint_of bits) e

-- What an expression that is a single value is in C where it is assigned, passed or returned.
abbrev pub lowered_value : Names → ValueTree → ExprTree
lowered_value names (numeric t) = given names t
lowered_value names (logical t) = lowered_cond names t
lowered_value names (state t) = lowered_status names t
lowered_value names t = given names (num_in t)

-- The method answers a truth value.
abbrev pub gives_flag : Gives → Bool
gives_flag gives.Flag = true
gives_flag answer = false

abbrev pub answers_truth : BaseSig → Bool
answers_truth sig = gives_flag (row_of sig).gives && same_mark (row_of sig).mark Pure

abbrev pub is_num : Gives → Bool
is_num (gives.Num width) = true
is_num answer = false

abbrev pub answers_number : BaseSig → Bool
answers_number sig = is_num (row_of sig).gives && same_mark (row_of sig).mark Pure
