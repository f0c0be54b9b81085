use Rattle.std.proofs.Common.{◌∙◌}
use Rattle.wf_bounds_stmts.proofs.PlaceLemmas.{place-at}
use Rattle.wf_bounds_stmts.proofs.places.place.Goals as goal

pub returns : goal.returns
returns c = c.expr_place.ensures ∙ place-at c.args.t.now c.args.e c.expr-expr.result.now c.expr-expr.ensures.made c.expr-expr.ensures.kinds
