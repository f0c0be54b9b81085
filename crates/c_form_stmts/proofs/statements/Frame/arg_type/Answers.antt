use Rattle.c_form_stmts.proofs.statements.Frame.arg_type.Goals as goal

pub returns-in-Expr : goal.returns-in-Expr
returns-in-Expr c = rw (← c.self.view_is, c.in-Expr.is) c.type_of.ensures
