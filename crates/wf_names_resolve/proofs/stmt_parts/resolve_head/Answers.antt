use Rattle.std.proofs.Common.{◌∙◌, arith}
use Rattle.wf_names_resolve.proofs.Growth.{grows_more, expr_kept}
use Rattle.wf_names_resolve.proofs.stmt_parts.resolve_head.Goals as goal

pub returns-clause-grows : goal.returns-clause-grows
returns-clause-grows c =
    grows_more c.args.nodes.now c.resolve_expr.new.nodes c.resolve_clauses.new.nodes c.in_ok-condition.ensures.grows c.in_ok-clauses.ensures.grows

pub returns-clause-below : goal.returns-clause-below
returns-clause-below c =
    (omega (arith, c.in_ok-condition.ensures.below, c.in_ok-clauses.ensures.grows.exprs), c.in_ok-clauses.ensures.below)

pub returns-clause-condition : goal.returns-clause-condition
returns-clause-condition c =
    expr_kept c.resolve_expr.new.nodes c.resolve_clauses.new.nodes c.in_ok-clauses.ensures.grows c.in_ok-condition.condition c.in_ok-condition.ensures.below ∙ c.in_ok-condition.ensures.made
