use Rattle.wf_ast.proofs.Accessors.{typed_seen, lent_stmt, stmt_inside}
use Rattle.wf_ast.proofs.typed.Typed.stmt.Goals as goal

pub returns-clause-below : goal.returns-clause-below
returns-clause-below c =
    stmt_inside c.args.self.now (typed_seen _ _ c.self.view_is c.self.invariant) c.args.s.0 _
    (lent_stmt _ _ c.self.view_is _ c.as_slice.ensures c.args.s.0 c.index-as_slice-s.result c.requires)
