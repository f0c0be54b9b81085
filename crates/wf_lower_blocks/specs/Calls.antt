-- What the code has of a call, as the typed tree has it.
use Rattle.std.specs.Prelude.{◌≡◌, ◌<◌, ⊤, ℕ, Bool, true, false, ◌&&◌, List, [], ◌∷◌, length, map, Option, None, Some, IfSome, nat_lt, slice_get, unwrap_or}
use Rattle.std.specs.List.{list_all}
use Rattle.wf_text.specs.declared.place.Place.{Place}
use Rattle.wf_base.specs.declared.marks.Mark.TheVariants.{Pure}
use Rattle.wf_base.specs.declared.base_methods.ReadForm.{ReadForm}
use Rattle.wf_base.specs.declared.base_methods.ReadForm.TheVariants.{ReadU8}
use Rattle.wf_base.specs.BaseTable.{bytes_of, read_width}
use Rattle.wf_ast.specs.declared.numbers.ExprId.{ExprId}
use Rattle.wf_ast.specs.declared.typed_code.Stmt.{Stmt}
use Rattle.wf_ast.specs.declared.typed_code.Stmt.TheVariants as stmts
use Rattle.wf_ast.specs.declared.typed_code.StmtNode.{StmtNode}
use Rattle.wf_ast.specs.declared.typed_nodes.TypedNodes.{TypedNodes}
use Rattle.wf_ast.specs.declared.types.Ty.{Ty}
use Rattle.wf_ast.specs.declared.types.Ty.TheVariants as types
use Rattle.wf_ast.specs.TypedInvariant.{is_expr}
use Rattle.wf_ast.specs.TypedPackage.{MethodTree, package_of}
use Rattle.wf_ast.specs.TypedTree.{ValueTree, lost, Target, Awaited, take_number, skip, write, Written, skip_fast, write_fast, copy_to_writer, copy_to_slice, Called, own, sub, Simple, assign, await, perform, invoke, break_from, continue_in, give_back, yield, claim, end}
use Rattle.wf_ast.specs.TypedTrees.{cond_in, tree_of, target_of, optional_target, assigned_by, no_statement, call_made, axiom_made}
use Rattle.wf_ast.specs.WellTyped.{number_of}
use Rattle.wf_ast.specs.NodeKinds.{is_slice_at, node_number, node_slice}
use Rattle.wf_meaning.specs.Entry.{short_read}
use Rattle.wf_meaning.specs.Remaining.{hands_on}
use Rattle.c_text.specs.declared.ids.CExprId.{CExprId}
use Rattle.c_text.specs.declared.kinds.COp.TheVariants.{Lt}
use Rattle.c_text.specs.declared.nodes.CArg.{CArg}
use Rattle.c_text.specs.CFits.{HasArgs}
use Rattle.c_text.specs.CNodes.{Nodes, args_in, expr_of, value_in}
use Rattle.c_text.specs.CTree.{ExprTree, Code, finish}
use Rattle.c_text.specs.CTree as c
use Rattle.wf_exprs.specs.Exprs.{status_constant}
use Rattle.wf_exprs.specs.Words.{num, two, args}
use Rattle.wf_lower_stmts.specs.BodyNodes.{AreAlike, is_target, target_in}
use Rattle.wf_lower_stmts.specs.Forms.{Form, count_local, held_local, status_local, got_local, suspend, when}
use Rattle.wf_lower_stmts.specs.Statements.{put_into, callee_name, receiver_code, values_codes}
use Rattle.wf_lower_blocks.specs.declared.awaiting.Awaited.{Awaited as AwaitedNode}
use Rattle.wf_lower_blocks.specs.declared.awaiting.Awaited.TheVariants as awaited
use Rattle.wf_lower_blocks.specs.declared.calling.Called.{Called as CalledNode}
use Rattle.wf_lower_blocks.specs.declared.calling.Called.TheVariants as calls
use Rattle.wf_lower_blocks.specs.declared.calling.Taker.{Taker}
use Rattle.wf_lower_blocks.specs.declared.calling.Taker.TheVariants as takers
use Rattle.wf_lower_blocks.specs.declared.performing.Written.{Written as WrittenNode}
use Rattle.wf_lower_blocks.specs.declared.performing.Written.TheVariants as writing
use Rattle.wf_lower_blocks.specs.declared.statements.Comes.{Comes}
use Rattle.wf_lower_blocks.specs.declared.statements.Comes.TheVariants as comes

-- A base method that may suspend, with its argument.
abbrev pub awaited_in : TypedNodes → AwaitedNode → Awaited
awaited_in nodes (awaited.Read form) = take_number form
awaited_in nodes (awaited.Skip e) = skip (node_number nodes e)
awaited_in nodes (awaited.Write e) = write (node_number nodes e)

abbrev pub is_awaited : TypedNodes → AwaitedNode → Bool
is_awaited nodes (awaited.Read form) = true
is_awaited nodes (awaited.Skip e) = is_expr nodes e
is_awaited nodes (awaited.Write e) = is_expr nodes e

-- A read of one byte takes it or nothing.
abbrev pub is_one_byte : ReadForm → Bool
is_one_byte ReadU8 = true
is_one_byte form = false

-- What stands after the bytes that a read takes.
abbrev pub read_all : Form → (k : ℕ) → Target → ReadForm → (rest : Code) → Code
read_all f k target form rest =
    when (two Lt count_local (num (bytes_of (read_width form)))) (suspend f k (status_constant short_read) finish) (put_into f.names target held_local rest)

-- A base method that writes and doesn't suspend, with its arguments.
abbrev pub written_in : TypedNodes → WrittenNode → Written
written_in nodes (writing.SkipFast a actual worst) = skip_fast a (node_number nodes actual) (node_number nodes worst)
written_in nodes (writing.WriteFast a byte) = write_fast a (node_number nodes byte)
written_in nodes (writing.CopyToWriter a source) = copy_to_writer a (node_slice nodes source)
written_in nodes (writing.CopyToSlice to source) = copy_to_slice (node_slice nodes to) (node_slice nodes source)

abbrev pub is_written : TypedNodes → WrittenNode → Bool
is_written nodes (writing.SkipFast a actual worst) = is_expr nodes actual
is_written nodes (writing.WriteFast a byte) = is_expr nodes byte
is_written nodes (writing.CopyToWriter a source) = is_expr nodes source
is_written nodes (writing.CopyToSlice to source) = is_slice_at nodes to && is_expr nodes source

-- The method that is called.
abbrev pub called_in : CalledNode → Called
called_in (calls.Own m) = own m.0
called_in (calls.Sub x m) = sub x.0 m.0

abbrev pub is_called : TypedNodes → CalledNode → Bool
is_called nodes called = nat_lt (number_of (called_in called)) (length nodes.methods)

abbrev pub no_method : MethodTree
no_method = record { name = []; of = 0; public = false; mark = Pure; args = []; locals = []; gives = None; body = end }

abbrev pub callee_in : TypedNodes → CalledNode → MethodTree
callee_in nodes called = unwrap_or (slice_get (package_of nodes).methods (number_of (called_in called))) no_method

-- The local that takes what a call gives.
abbrev pub taken_by : Taker → Option ExprTree
taken_by takers.Status = Some status_local
taken_by takers.Got = Some got_local
taken_by takers.Nothing = None

-- The unit has this expression, where there is one.
pub record HasValue (nodes : Nodes) (e : Option CExprId) (tree : Option ExprTree) : Type 0 where
  pub there : IfSome e (λ i. i.0 < length nodes.exprs)
  pub is : value_in (expr_of nodes) e ≡ tree

-- And these arguments.
pub record HasGiven (nodes : Nodes) (given : List CArg) (trees : List ExprTree) : Type 0 where
  pub fits : HasArgs nodes (length nodes.exprs) given
  pub is : args_in nodes.names (expr_of nodes) given ≡ args trees

-- What is passed, as trees.
abbrev pub given_in : TypedNodes → List ExprId → List ValueTree
given_in nodes es = map (tree_of nodes) es

abbrev pub are_given : TypedNodes → List ExprId → Bool
are_given nodes es = list_all (is_expr nodes) es

abbrev pub call_with : Form → (into : Option ExprTree) → Called → MethodTree → List ValueTree → (rest : Code) → Code
call_with f into called callee given rest =
    c.call into (callee_name f.within called callee) (args (receiver_code f.names called ∷ values_codes f.names given)) rest

-- What a call comes to, as a statement.
abbrev pub ComesTo : TypedNodes → Comes → Simple → Type 0
ComesTo nodes (comes.Await it) (await at t a call) = AreAlike t (target_in nodes it.target) × ((it.a ≡ a) × (awaited_in nodes it.call ≡ call))
ComesTo nodes (comes.Perform target call) (perform at t written) = AreAlike t (target_in nodes target) × (written_in nodes call ≡ written)
ComesTo nodes (comes.HandOn what) (invoke at t keep mark called given) =
    (hands_on keep mark ≡ true) × ((called_in what.called ≡ called) × (given ≡ given_in nodes what.args.now))
ComesTo nodes (comes.Invoke target what) (invoke at t keep mark called given) =
    (hands_on keep mark ≡ false) × (AreAlike t (target_in nodes target) × ((called_in what.called ≡ called) × (given ≡ given_in nodes what.args.now)))
ComesTo nodes comes.Nothing (give_back (Some lost)) = ⊤
ComesTo nodes made s = ⊥

abbrev pub comes_fits : TypedNodes → Comes → Bool
comes_fits nodes (comes.Await it) = is_target nodes it.target && is_awaited nodes it.call
comes_fits nodes (comes.Perform target call) = is_target nodes target && is_written nodes call
comes_fits nodes (comes.HandOn what) = is_called nodes what.called && are_given nodes what.args.now
comes_fits nodes (comes.Invoke target what) = is_target nodes target && (is_called nodes what.called && are_given nodes what.args.now)
comes_fits nodes comes.Nothing = true

abbrev pub is_part : Ty → Bool
is_part (types.Part s) = true
is_part ty = false

-- A statement without blocks of its own, by its node; one with blocks stands as no statement.
abbrev pub simple_made : TypedNodes → (call_at : Place) → Stmt → Simple
simple_made nodes at (stmts.Assign target op value) = assign (target_of (tree_of nodes target)) (assigned_by op) (tree_of nodes value)
simple_made nodes at (stmts.Call target keep callee given) = call_made nodes (tree_of nodes) at (optional_target (tree_of nodes) target) keep callee (given_in nodes given)
simple_made nodes at (stmts.If arms otherwise) = no_statement
simple_made nodes at (stmts.While head body) = no_statement
simple_made nodes at (stmts.Break w) = break_from w.0
simple_made nodes at (stmts.Continue w) = continue_in w.0
simple_made nodes at (stmts.Return None) = give_back None
simple_made nodes at (stmts.Return (Some e)) = give_back (Some (tree_of nodes e))
simple_made nodes at (stmts.Yield n) = yield n.0
simple_made nodes at (stmts.Assert goal ax) = claim (cond_in (tree_of nodes goal)) (axiom_made nodes (tree_of nodes) ax)

abbrev pub simple_of_node : TypedNodes → Option StmtNode → Simple
simple_of_node nodes None = no_statement
simple_of_node nodes (Some node) = simple_made nodes node.inner node.stmt

abbrev pub simple_at : TypedNodes → (s : ℕ) → Simple
simple_at nodes s = simple_of_node nodes (slice_get nodes.stmts s)
