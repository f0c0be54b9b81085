-- The typed trees that the nodes of a package stand for. The tree of an expression is made of the trees of the
-- expressions before it, so the trees of all are a fold over the nodes from the left. Statements are folded
-- likewise, over the expressions' trees; what a statement makes is a block, of the block that follows it.
use Rattle.std.specs.Prelude.{ℕ, Bool, true, false, Option, None, Some, List, [], ◌∷◌, ◌++◌, length, map, slice_get, unwrap_or, option_map}
use Rattle.wf_text.specs.declared.place.Place.{Place}
use Rattle.wf_text.specs.declared.categories.Category.TheVariants.{Fine, Note, Suspension, Fault}
use Rattle.wf_base.specs.declared.marks.Mark.{Mark}
use Rattle.wf_base.specs.declared.marks.Mark.TheVariants.{Pure}
use Rattle.wf_base.specs.declared.base_methods.BaseSig.{BaseSig}
use Rattle.wf_base.specs.declared.base_methods.BaseSig.TheVariants as sigs
use Rattle.wf_base.specs.BaseTable.{bits_of}
use Rattle.wf_ast.specs.declared.numbers.ExprId.{ExprId}
use Rattle.wf_ast.specs.declared.numbers.StmtId.{StmtId}
use Rattle.wf_ast.specs.declared.numbers.TextId.{TextId}
use Rattle.wf_ast.specs.declared.operators.Op.{Op}
use Rattle.wf_ast.specs.declared.operators.Op.TheVariants as ops
use Rattle.wf_ast.specs.declared.types.Ty.{Ty}
use Rattle.wf_ast.specs.declared.types.Ty.TheVariants as types
use Rattle.wf_ast.specs.declared.typed_code.Expr.{Expr}
use Rattle.wf_ast.specs.declared.typed_code.Expr.TheVariants as exprs
use Rattle.wf_ast.specs.declared.typed_code.ExprNode.{ExprNode}
use Rattle.wf_ast.specs.declared.typed_code.Callee.{Callee}
use Rattle.wf_ast.specs.declared.typed_code.Callee.TheVariants as callees
use Rattle.wf_ast.specs.declared.typed_code.Arm.{Arm}
use Rattle.wf_ast.specs.declared.typed_code.LoopHead.{LoopHead}
use Rattle.wf_ast.specs.declared.typed_code.AxiomRef.{AxiomRef}
use Rattle.wf_ast.specs.declared.typed_code.Stmt.{Stmt}
use Rattle.wf_ast.specs.declared.typed_code.Stmt.TheVariants as stmts
use Rattle.wf_ast.specs.declared.typed_code.StmtNode.{StmtNode}
use Rattle.wf_ast.specs.declared.typed_code.Block as typed_code
use Rattle.wf_ast.specs.declared.typed_nodes.TypedNodes.{TypedNodes}
pub use Rattle.wf_ast.specs.Places.{no_place}
use Rattle.wf_ast.specs.TypedTree.{Path, local, field, arg, NumType, Arith, plus, minus, times, divided, remainder, shift_left, shift_right, bits_and, bits_or, bits_xor, mod_plus, mod_minus, mod_times, mod_shift_left, sat_plus, sat_minus, Order, less, at_most, equal, differs, at_least, greater, reader_length, reader_position, peek, writer_length, writer_position, NumTree, number, read, element, link, convert, length_of, asked, SliceTree, slice, array, cut, EndTree, absent, present, StatusTree, status, held, no_status, CondTree, truth, flag, compare, same_status, junction, negation, closed, has_category, ValueTree, numeric, logical, state, elements, io, lost, Target, to_number, to_element, to_flag, to_status, to_slice, to_nothing, take_number, skip, write, skip_fast, write_fast, copy_to_writer, copy_to_slice, own, sub, Axiom, Simple, assign, await, perform, invoke, break_from, continue_in, give_back, yield, claim, Site, Head, Block, end, plain, choose, loop}

-- The kinds of operators.
pub data OperatorKind : Type 0 where
  arithmetic : Arith → OperatorKind
  ordering : Order → OperatorKind
  joining : (both : Bool) → OperatorKind

abbrev pub operator_kind : Op → OperatorKind
operator_kind ops.Add = arithmetic plus
operator_kind ops.Mul = arithmetic times
operator_kind ops.BitAnd = arithmetic bits_and
operator_kind ops.BitOr = arithmetic bits_or
operator_kind ops.BitXor = arithmetic bits_xor
operator_kind ops.And = joining true
operator_kind ops.Or = joining false
operator_kind ops.Sub = arithmetic minus
operator_kind ops.Div = arithmetic divided
operator_kind ops.Rem = arithmetic remainder
operator_kind ops.Shl = arithmetic shift_left
operator_kind ops.Shr = arithmetic shift_right
operator_kind ops.Same = ordering equal
operator_kind ops.Differs = ordering differs
operator_kind ops.Less = ordering less
operator_kind ops.LessOrSame = ordering at_most
operator_kind ops.Greater = ordering greater
operator_kind ops.GreaterOrSame = ordering at_least
operator_kind ops.ModAdd = arithmetic mod_plus
operator_kind ops.ModSub = arithmetic mod_minus
operator_kind ops.ModMul = arithmetic mod_times
operator_kind ops.ModShl = arithmetic mod_shift_left
operator_kind ops.SatAdd = arithmetic sat_plus
operator_kind ops.SatSub = arithmetic sat_minus

-- Trees of the kind that is wanted. What has another kind stands as one that no typed package has.
abbrev pub no_number : NumTree
no_number = read no_place (record { bits = 0; low = 0; high = 0 }) (local 0)

abbrev pub num_in : ValueTree → NumTree
num_in (numeric t) = t
num_in t = no_number

abbrev pub cond_in : ValueTree → CondTree
cond_in (logical t) = t
cond_in t = compare no_place no_place no_number equal no_number

abbrev pub status_in : ValueTree → StatusTree
status_in (state t) = t
status_in t = no_status

abbrev pub slice_in : ValueTree → SliceTree
slice_in (elements t) = t
slice_in t = slice no_place 0 (local 0)

abbrev pub io_in : ValueTree → ℕ
io_in (io at a) = a
io_in t = 0

-- What names a variable, by its type.
abbrev pub named : Place → Ty → Path → ValueTree
named at (types.Num width lo hi) path = numeric (read at (record { bits = bits_of width; low = lo; high = hi }) path)
named at types.Flag path = logical (flag at path)
named at types.Status path = state (held at path)
named at (types.Slice width) path = elements (slice at (bits_of width) path)
named at (types.Array width lo hi count) path = elements (array at (record { bits = bits_of width; low = lo; high = hi }) count path)
named at types.Reader (arg n) = io at n
named at types.Writer (arg n) = io at n
named at ty path = lost

-- The type of a number; of no number that of none.
abbrev pub num_type : Ty → NumType
num_type (types.Num width lo hi) = record { bits = bits_of width; low = lo; high = hi }
num_type ty = record { bits = 0; low = 0; high = 0 }

-- A chain from the left: `joined` tells whether the part so far is more than its first operand.
abbrev pub num_chain : Place → Arith → (bits : ℕ) → (joined : Bool) → NumTree → List ValueTree → List Place → NumTree
num_chain at op bits joined so_far [] signs = so_far
num_chain at op bits joined so_far (t ∷ ts) [] = num_chain at op bits true (link at at op bits joined so_far (num_in t)) ts []
num_chain at op bits joined so_far (t ∷ ts) (sign ∷ signs) = num_chain at op bits true (link at sign op bits joined so_far (num_in t)) ts signs

abbrev pub cond_chain : Place → (both joined : Bool) → CondTree → List ValueTree → CondTree
cond_chain at both joined so_far [] = so_far
cond_chain at both joined so_far (t ∷ ts) = cond_chain at both true (junction at both joined so_far (cond_in t)) ts

-- The first sign, where there is one.
abbrev pub first_sign : Place → List Place → Place
first_sign at [] = at
first_sign at (sign ∷ signs) = sign

-- A comparison: of numbers, and with `==` and `<>` of statuses.
abbrev pub comparison : Place → (sign : Place) → Order → ValueTree → ValueTree → ValueTree
comparison at sign equal (state a) b = logical (same_status at sign a true (status_in b))
comparison at sign differs (state a) b = logical (same_status at sign a false (status_in b))
comparison at sign op a b = logical (compare at sign (num_in a) op (num_in b))

abbrev pub chain_of : Place → List Place → Ty → OperatorKind → List ValueTree → ValueTree
chain_of at signs ty (arithmetic op) (t ∷ ts) = numeric (num_chain at op (num_type ty).bits false (num_in t) ts signs)
chain_of at signs ty (joining both) (t ∷ ts) = logical (cond_chain at both false (cond_in t) ts)
chain_of at signs ty (ordering op) (t ∷ u ∷ ts) = comparison at (first_sign at signs) op t u
chain_of at signs ty sort ts = lost

-- A base method inside an expression.
abbrev pub answer_of : Place → BaseSig → ValueTree → ValueTree
answer_of at sigs.ReaderLength t = numeric (asked at reader_length (io_in t))
answer_of at sigs.ReaderIsClosed t = logical (closed at (io_in t))
answer_of at sigs.ReaderPosition t = numeric (asked at reader_position (io_in t))
answer_of at (sigs.Peek form) t = numeric (asked at (peek form) (io_in t))
answer_of at sigs.WriterLength t = numeric (asked at writer_length (io_in t))
answer_of at sigs.WriterPosition t = numeric (asked at writer_position (io_in t))
answer_of at (sigs.SliceLength width) t = numeric (length_of at (slice_in t))
answer_of at (sigs.ArrayLength width) t = numeric (length_of at (slice_in t))
answer_of at sigs.IsOk t = logical (has_category at (status_in t) Fine)
answer_of at sigs.IsNote t = logical (has_category at (status_in t) Note)
answer_of at sigs.IsSuspension t = logical (has_category at (status_in t) Suspension)
answer_of at sigs.IsError t = logical (has_category at (status_in t) Fault)
answer_of at sig t = lost

abbrev pub end_in : (ExprId → ValueTree) → Option ExprId → EndTree
end_in look None = absent
end_in look (Some e) = present (num_in (look e))

-- The tree that a node which is no constant number makes of the trees before it.
abbrev pub made : (ExprId → ValueTree) → Place → (signs : List Place) → Ty → Expr → ValueTree
made look at signs ty (exprs.Number value) = numeric (number at value)
made look at signs ty (exprs.Const c) = lost
made look at signs ty (exprs.Status s) = state (status at s.0)
made look at signs ty (exprs.Truth value) = logical (truth at value)
made look at signs ty (exprs.Local x) = named at ty (local x.0)
made look at signs ty (exprs.Field x) = named at ty (field x.0)
made look at signs ty (exprs.Arg x) = named at ty (arg x.0)
made look at signs ty (exprs.Index base index) = numeric (element at (num_type ty) (slice_in (look base)) (num_in (look index)))
made look at signs ty (exprs.Cut base from to) = elements (cut at (slice_in (look base)) (end_in look from) (end_in look to))
made look at signs ty (exprs.Chain op parts) = chain_of at signs ty (operator_kind op) (map look parts)
made look at signs ty (exprs.Convert of to) = numeric (convert at (first_sign at signs) (bits_of to) (num_in (look of)))
made look at signs ty (exprs.Not of) = logical (negation at (cond_in (look of)))
made look at signs ty (exprs.Base on sig) = answer_of at sig (look on)

-- And that of any node.
abbrev pub made_or_number : (ExprId → ValueTree) → Place → (signs : List Place) → Ty → Option ℕ → Expr → ValueTree
made_or_number look at signs ty None expr = made look at signs ty expr
made_or_number look at signs ty (Some value) expr = numeric (number at value)

abbrev pub value_or : Option ValueTree → ValueTree
value_or t = unwrap_or t lost

-- The tree with this number among the trees so far.
abbrev pub tree_in : List ValueTree → ExprId → ValueTree
tree_in ts e = value_or (slice_get ts e.0)

-- The type and the number of the node with this number.
abbrev pub type_of_node : TypedNodes → ℕ → Ty
type_of_node nodes e = unwrap_or (slice_get nodes.types e) types.Flag

abbrev pub constant_of_node : TypedNodes → ℕ → Option ℕ
constant_of_node nodes e = unwrap_or (slice_get nodes.constants e) None

abbrev pub place_of_node : TypedNodes → ℕ → Place
place_of_node nodes e = unwrap_or (option_map (λ node. node.at) (slice_get nodes.exprs e)) no_place

abbrev pub signs_of_node : TypedNodes → ℕ → List Place
signs_of_node nodes e = unwrap_or (option_map (λ node. node.signs) (slice_get nodes.exprs e)) []

abbrev pub exprs_after : TypedNodes → List ValueTree → List ExprNode → List ValueTree
exprs_after nodes ts [] = ts
exprs_after nodes ts (n ∷ ns) =
    exprs_after nodes (ts ++ made_or_number (tree_in ts) n.at n.signs (type_of_node nodes (length ts)) (constant_of_node nodes (length ts)) n.expr ∷ []) ns

-- The trees of all expressions, by number.
unfoldable pub expr_trees : TypedNodes → List ValueTree
expr_trees nodes = exprs_after nodes [] nodes.exprs

-- The tree of one.
abbrev pub tree_of : TypedNodes → ExprId → ValueTree
tree_of nodes e = tree_in (expr_trees nodes) e

-- What a target's expression names.
abbrev pub target_of : ValueTree → Target
target_of (numeric (read at of path)) = to_number at of path
target_of (numeric (element at of cells index)) = to_element at of cells index
target_of (logical (flag at path)) = to_flag at path
target_of (state (held at path)) = to_status at path
target_of (elements (slice at bits path)) = to_slice at bits path
target_of t = to_nothing

abbrev pub optional_target : (ExprId → ValueTree) → Option ExprId → Target
optional_target look None = to_nothing
optional_target look (Some e) = target_of (look e)

-- The operator of an assignment with one.
abbrev pub arithmetic_of : OperatorKind → Option Arith
arithmetic_of (arithmetic op) = Some op
arithmetic_of sort = None

abbrev pub assigned_by : Option Op → Option Arith
assigned_by None = None
assigned_by (Some op) = arithmetic_of (operator_kind op)

-- What no typed package has as a statement.
abbrev pub no_statement : Simple
no_statement = give_back (Some lost)

-- A base method as a statement, by its arguments in declared order.
abbrev pub base_call : Place → Target → ValueTree → BaseSig → List ValueTree → Simple
base_call at target on (sigs.Read form) [] = await at target (io_in on) (take_number form)
base_call at target on sigs.Skip (n ∷ []) = await at target (io_in on) (skip (num_in n))
base_call at target on sigs.Write (a ∷ []) = await at target (io_in on) (write (num_in a))
base_call at target on sigs.SkipFast (actual ∷ worst_case ∷ []) = perform at target (skip_fast (io_in on) (num_in actual) (num_in worst_case))
base_call at target on sigs.WriteFast (a ∷ []) = perform at target (write_fast (io_in on) (num_in a))
base_call at target on sigs.WriterCopy (s ∷ []) = perform at target (copy_to_writer (io_in on) (slice_in s))
base_call at target on (sigs.SliceCopy width) (s ∷ []) = perform at target (copy_to_slice (slice_in on) (slice_in s))
base_call at target on sig args = no_statement

-- The mark of the method with this number.
abbrev pub mark_of : TypedNodes → ℕ → Mark
mark_of nodes m = unwrap_or (option_map (λ method. method.mark) (slice_get nodes.methods m)) Pure

abbrev pub call_made : TypedNodes → (ExprId → ValueTree) → Place → Target → Bool → Callee → List ValueTree → Simple
call_made nodes look at target keep (callees.Own m) args = invoke at target keep (mark_of nodes m.0) (own m.0) args
call_made nodes look at target keep (callees.Sub x m) args = invoke at target keep (mark_of nodes m.0) (sub x.0 m.0) args
call_made nodes look at target keep (callees.Base on sig) args = base_call at target (look on) sig args

abbrev pub text_of : TypedNodes → TextId → List ℕ
text_of nodes t = unwrap_or (slice_get nodes.texts t.0) []

abbrev pub axiom_made : TypedNodes → (ExprId → ValueTree) → Option AxiomRef → Option Axiom
axiom_made nodes look None = None
axiom_made nodes look (Some a) = Some (record { at = a.at; text = text_of nodes a.name; given = map (λ g. (text_of nodes g.0, num_in (look g.1))) a.given })

abbrev pub head_made : (ExprId → ValueTree) → Place → LoopHead → Head
head_made look close head =
    record { cond = cond_in (look head.cond); clauses = map (λ c. (c.0, cond_in (look c.1))) head.clauses; is_left = head.has_break; close = close }

-- Statements in order.
abbrev pub block_made : (StmtId → Block → Block) → List StmtId → Block
block_made look [] = end
block_made look (s ∷ ss) = look s (block_made look ss)

-- The arms of an `if` after the first, and what stands after the last `else`.
abbrev pub otherwise_made : (ExprId → ValueTree) → (StmtId → Block → Block) → Site → List Arm → Option typed_code.Block → Block
otherwise_made look inner site [] None = end
otherwise_made look inner site [] (Some block) = block_made inner block.items
otherwise_made look inner site (arm ∷ arms) other =
    choose site true (cond_in (look arm.cond)) (block_made inner arm.body.items) (otherwise_made look inner site arms other) end

abbrev pub if_made : (ExprId → ValueTree) → (StmtId → Block → Block) → Site → List Arm → Option typed_code.Block → Block → Block
if_made look inner site [] other rest = plain site no_statement rest
if_made look inner site (arm ∷ arms) other rest =
    choose site false (cond_in (look arm.cond)) (block_made inner arm.body.items) (otherwise_made look inner site arms other) rest

-- What a statement makes of the block after it: `look` gives the trees of expressions, `inner` what the statements before
-- it make.
abbrev pub stmt_made : TypedNodes → (ExprId → ValueTree) → (StmtId → Block → Block) → ℕ → StmtNode → Block → Block
stmt_made nodes look inner n node rest = making node.stmt
  where
    site : Site
    site = record { number = n; at = node.at }

    making : Stmt → Block
    making (stmts.Assign target op value) = plain site (assign (target_of (look target)) (assigned_by op) (look value)) rest
    making (stmts.Call target keep callee args) = plain site (call_made nodes look node.inner (optional_target look target) keep callee (map look args)) rest
    making (stmts.If arms otherwise) = if_made look inner site arms otherwise rest
    making (stmts.While head body) = loop site (head_made look node.inner head) (block_made inner body.items) rest
    making (stmts.Break w) = plain site (break_from w.0) rest
    making (stmts.Continue w) = plain site (continue_in w.0) rest
    making (stmts.Return None) = plain site (give_back None) rest
    making (stmts.Return (Some e)) = plain site (give_back (Some (look e))) rest
    making (stmts.Yield s) = plain site (yield s.0) rest
    making (stmts.Assert goal axiom_ref) = plain site (claim (cond_in (look goal)) (axiom_made nodes look axiom_ref)) rest

-- What stands for a number that names no statement.
abbrev pub no_stmt : Block → Block
no_stmt rest = plain (record { number = 0; at = no_place }) no_statement rest

abbrev pub onto : List (Block → Block) → StmtId → Block → Block
onto made_so_far s = unwrap_or (slice_get made_so_far s.0) no_stmt

abbrev pub stmts_after : TypedNodes → (ExprId → ValueTree) → List (Block → Block) → List StmtNode → List (Block → Block)
stmts_after nodes look made_so_far [] = made_so_far
stmts_after nodes look made_so_far (n ∷ ns) =
    stmts_after nodes look (made_so_far ++ stmt_made nodes look (onto made_so_far) (length made_so_far) n ∷ []) ns

-- What all statements make, by number.
unfoldable pub stmt_makers : TypedNodes → List (Block → Block)
stmt_makers nodes = stmts_after nodes (tree_of nodes) [] nodes.stmts

-- The tree of a block.
abbrev pub block_of : TypedNodes → typed_code.Block → Block
block_of nodes block = block_made (onto (stmt_makers nodes)) block.items
