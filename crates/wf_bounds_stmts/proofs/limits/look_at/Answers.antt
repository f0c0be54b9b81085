use Rattle.wf_facts_exprs.proofs.ShapeLemmas.{kind_seen}
use Rattle.wf_bounds_stmts.proofs.limits.look_at.Goals as goal

pub returns : goal.returns
returns c = kind_seen c.args.t.now c.args.e c.expr-expr.result.now (record { tree = c.expr-expr.ensures.made; kinds = c.expr-expr.ensures.kinds; parts = c.expr-expr.ensures.parts })
