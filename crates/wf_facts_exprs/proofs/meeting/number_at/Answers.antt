use Rattle.std.proofs.Common.{sym, ◌∙◌, Some, None}
use Rattle.wf_facts_exprs.proofs.ShapeLemmas.{number_seen}
use Rattle.wf_facts_exprs.proofs.meeting.number_at.Goals as goal

pub returns-clause-number : goal.returns-clause-number
returns-clause-number c = number_seen c.args.t.now c.args.e c.expr-expr.result.now (record { tree = c.expr-expr.ensures.made; kinds = c.expr-expr.ensures.kinds; parts = c.expr-expr.ensures.parts }) (Some c.in_ok-constant.field-0) (sym c.constant.ensures ∙ c.in_ok-constant.was)

pub returns-in_err-constant-clause-number : goal.returns-in_err-constant-clause-number
returns-in_err-constant-clause-number c = rw c.from_residual.ensures (number_seen c.args.t.now c.args.e c.expr-expr.result.now (record { tree = c.expr-expr.ensures.made; kinds = c.expr-expr.ensures.kinds; parts = c.expr-expr.ensures.parts }) None (sym c.constant.ensures ∙ c.in_err-constant.was))
