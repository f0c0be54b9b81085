use Rattle.wf_ast.proofs.Accessors.{typed_seen, lent_expr, expr_made, expr_below, expr_kinds, expr_parts}
use Rattle.wf_ast.proofs.typed.Typed.expr.Goals as goal

pub returns-clause-made : goal.returns-clause-made
returns-clause-made c =
    expr_made c.args.self.now (typed_seen _ _ c.self.view_is c.self.invariant) c.args.e _
    (lent_expr _ _ c.self.view_is _ c.as_slice.ensures c.args.e.0 c.index-as_slice-e.result c.requires)

pub returns-clause-below : goal.returns-clause-below
returns-clause-below c =
    expr_below c.args.self.now (typed_seen _ _ c.self.view_is c.self.invariant) c.args.e _
    (lent_expr _ _ c.self.view_is _ c.as_slice.ensures c.args.e.0 c.index-as_slice-e.result c.requires)

pub returns-clause-kinds : goal.returns-clause-kinds
returns-clause-kinds c =
    expr_kinds c.args.self.now (typed_seen _ _ c.self.view_is c.self.invariant) c.args.e _
    (lent_expr _ _ c.self.view_is _ c.as_slice.ensures c.args.e.0 c.index-as_slice-e.result c.requires)

pub returns-clause-parts : goal.returns-clause-parts
returns-clause-parts c =
    expr_parts c.args.self.now (typed_seen _ _ c.self.view_is c.self.invariant) c.args.e _
    (lent_expr _ _ c.self.view_is _ c.as_slice.ensures c.args.e.0 c.index-as_slice-e.result c.requires)
