-- Statements apart from their blocks: the nodes and the blocks that they make before others.
use Rattle.std.specs.Prelude.{◌<◌, Bool, true, false, ⊤, length, IfSome}
use Rattle.c_text.specs.declared.ids.CStmtId.{CStmtId}
use Rattle.c_text.specs.declared.nodes.CStmt.{CStmt}
use Rattle.c_text.specs.declared.nodes.CStmt.TheVariants as stmts
use Rattle.c_text.specs.CFits.{HasName, HasTarget, HasCall}
use Rattle.c_text.specs.CGrammar.{FitsElse}
use Rattle.c_text.specs.CNodes.{Nodes, bytes_at, args_in, expr_of, code_of, value_in}
use Rattle.c_text.specs.CSpelling.{IsLiteral}
use Rattle.c_text.specs.CTree.{Code, nested, empty, assign, call, jump, branch, repeat, select, leave, case_label, default_label, name_label}
use Rattle.c_read_nodes.specs.declared.statements.Statement.{Statement}
use Rattle.c_read_nodes.specs.declared.statements.Statement.TheVariants.{Nested, Empty, Assign, Call, Goto, If, While, Switch, Return, Case, Default, Label}

abbrev pub node_of : Statement → (rest : CStmtId) → CStmt
node_of (Nested inner) rest = stmts.Block inner rest
node_of Empty rest = stmts.Empty rest
node_of (Assign target value) rest = stmts.Assign target value rest
node_of (Call target c) rest = stmts.Call target c rest
node_of (Goto label) rest = stmts.Goto label rest
node_of (If b) rest = stmts.If b.test b.body b.otherwise b.other rest
node_of (While test body) rest = stmts.While test body rest
node_of (Switch on body) rest = stmts.Switch on body rest
node_of (Return value) rest = stmts.Return value rest
node_of (Case number) rest = stmts.Case number rest
node_of Default rest = stmts.Default rest
node_of (Label name) rest = stmts.Label name rest

-- a statement has to stand after this one
abbrev pub is_label : Statement → Bool
is_label (Case number) = true
is_label Default = true
is_label (Label name) = true
is_label _ = false

-- The block of the statement and what follows it.
abbrev pub code_with : Nodes → Statement → (rest : Code) → Code
code_with nodes (Nested inner) rest = nested (code_of nodes inner.0) rest
code_with nodes Empty rest = empty rest
code_with nodes (Assign target value) rest = assign (expr_of nodes target.0) (expr_of nodes value.0) rest
code_with nodes (Call target c) rest = call (value_in (expr_of nodes) target) (bytes_at nodes.names c.function.0) (args_in nodes.names (expr_of nodes) c.args) rest
code_with nodes (Goto label) rest = jump (bytes_at nodes.names label.0) rest
code_with nodes (If b) rest = branch (expr_of nodes b.test.0) (code_of nodes b.body.0) b.otherwise (code_of nodes b.other.0) rest
code_with nodes (While test body) rest = repeat (expr_of nodes test.0) (code_of nodes body.0) rest
code_with nodes (Switch on body) rest = select (expr_of nodes on.0) (code_of nodes body.0) rest
code_with nodes (Return value) rest = leave (value_in (expr_of nodes) value) rest
code_with nodes (Case number) rest = case_label number rest
code_with nodes Default rest = default_label rest
code_with nodes (Label name) rest = name_label (bytes_at nodes.names name.0) rest

-- Its parts are nodes of the unit, and it is an alternative of the grammar.
abbrev pub StatementFits : Nodes → Statement → Type 0
StatementFits nodes (Nested inner) = inner.0 < length nodes.stmts
StatementFits nodes Empty = ⊤
StatementFits nodes (Assign target value) = HasTarget nodes (length nodes.exprs) target × (value.0 < length nodes.exprs)
StatementFits nodes (Call target c) = IfSome target (HasTarget nodes (length nodes.exprs)) × HasCall nodes (length nodes.exprs) c
StatementFits nodes (Goto label) = HasName nodes label
StatementFits nodes (If b) = (b.test.0 < length nodes.exprs) × (b.body.0 < length nodes.stmts) × (b.other.0 < length nodes.stmts) × FitsElse b.otherwise (code_of nodes b.other.0)
StatementFits nodes (While test body) = (test.0 < length nodes.exprs) × (body.0 < length nodes.stmts)
StatementFits nodes (Switch on body) = (on.0 < length nodes.exprs) × (body.0 < length nodes.stmts)
StatementFits nodes (Return value) = IfSome value (λ e. e.0 < length nodes.exprs)
StatementFits nodes (Case number) = IsLiteral number
StatementFits nodes Default = ⊤
StatementFits nodes (Label name) = HasName nodes name
