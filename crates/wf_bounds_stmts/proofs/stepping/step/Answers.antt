use Rattle.std.proofs.Common.{sym, ◌∙◌}
use Rattle.wf_bounds_stmts.proofs.StepLemmas.{chain-numbers}
use Rattle.wf_bounds_stmts.proofs.stepping.step.Goals as goal

pub step_by_chain-requires-clause-numbers : goal.step_by_chain-requires-clause-numbers
step_by_chain-requires-clause-numbers c =
    rw c.as_slice.ensures
    (chain-numbers c.args.t.now c.args.value c.constant.result c.in-Chain.op _ c.constant.ensures (sym c.is_some.ensures ∙ c.if-is_some.false) c.requires.value (rw c.in-Chain.is at c.expr-expr.ensures.kinds) (rw c.in-Chain.is at c.expr-expr.ensures.below))
