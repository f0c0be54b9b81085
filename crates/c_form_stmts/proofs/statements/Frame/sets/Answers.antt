use Rattle.std.proofs.Common.{sym}
use Rattle.c_text.specs.CNodes.{bytes_at, expr_of}
use Rattle.c_form_exprs.specs.Front.{scope_in}
use Rattle.c_form_stmts.proofs.CallLemmas.{set_by}
use Rattle.c_form_stmts.proofs.statements.Frame.sets.Goals as goal

pub returns-then-is_same_name : goal.returns-then-is_same_name
returns-then-is_same_name c =
    let found = set_by (scope_in c.args.self.now.within) (expr_of c.args.self.now.within.front.nodes c.in-Expr-Expr-SizeOf.pointer.0) (expr_of c.args.self.now.within.front.nodes c.in-Expr-Expr-SizeOf.value.0) (bytes_at c.args.self.now.within.front.nodes.names c.in-Some.name.0) (bytes_at c.args.self.now.within.front.nodes.names c.in-Expr-Expr-SizeOf.sized.0) c.points_to_struct.result c.in-Some.ensures.is (sym c.if-is_zero.ensures) (rw (← c.self.view_is) (sym c.if-is_same_name.ensures)) c.points_to_struct.ensures in
    rw (c.in-Expr-Expr-SizeOf.is-0, c.in-Expr-Expr-SizeOf.is-1, c.in-Expr-Expr-SizeOf.is-2) found
