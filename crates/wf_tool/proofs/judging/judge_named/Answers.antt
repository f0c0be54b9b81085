use Rattle.wf_tool.proofs.JudgingLemmas.{checked-judged, mistyped-judged}
use Rattle.std.proofs.lemmas.Result.{err_from_is_err_and}
use Rattle.wf_tool.proofs.judging.judge_named.Goals as goal

pub returns : goal.returns
returns c = checked-judged c.args.named c.in_ok-typed.typed c.in_ok-typed.ensures.typed c.check.result c.check.ensures.package c.check.ensures.accepted c.check.ensures.refused

pub returns-in_err-typed : goal.returns-in_err-typed
returns-in_err-typed c =
    let r = err_from_is_err_and c.from_residual.result c.from_residual.ensures.1 in
    rw (r.1, r.2) (mistyped-judged c.args.named c.in_err-typed.field-0.0 c.in_err-typed.ensures.refused)
