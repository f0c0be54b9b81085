use Rattle.std.proofs.Common.{◌∙◌, arith}
use Rattle.wf_names_resolve.proofs.Growth.{grows_more, expr_kept}
use Rattle.wf_names_resolve.proofs.words.resolve_assert.Goals as goal

pub returns-clause-grows : goal.returns-clause-grows
returns-clause-grows c = grows_more c.args.nodes.now c.resolve_expr.new.nodes c.resolve_via.new.nodes c.in_ok-goal.ensures.grows c.in_ok-via.ensures.grows

pub returns-clause-below : goal.returns-clause-below
returns-clause-below c = (omega (arith, c.in_ok-goal.ensures.below, c.in_ok-via.ensures.grows.exprs), c.in_ok-via.ensures.below)

pub returns-clause-goal : goal.returns-clause-goal
returns-clause-goal c = expr_kept c.resolve_expr.new.nodes c.resolve_via.new.nodes c.in_ok-via.ensures.grows c.in_ok-goal.goal c.in_ok-goal.ensures.below ∙ c.in_ok-goal.ensures.made
