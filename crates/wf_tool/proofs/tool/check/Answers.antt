use Rattle.std.proofs.Common.{string_bytes}
use Rattle.std.proofs.lemmas.Result.{IfOk-weaker}
use Rattle.wf_tool.specs.Views.{words_seen}
use Rattle.wf_tool.proofs.FaultLines.{check-fault-told}
use Rattle.wf_tool.proofs.tool.check.Goals as goal

pub returns-in-Err-clause-told : goal.returns-in-Err-clause-told
returns-in-Err-clause-told g c =
    IfOk-weaker c.fault_answer.result _ _
    (λ it told. check-fault-told (g.I.Inputs.held c.args.inputs.now) (g.I.Inputs.last_failed c.judge_package.new.inputs) (words_seen c.args.asked) (g.I.Inputs.faults c.args.inputs.now) (g.I.Inputs.faults c.judge_package.new.inputs)
    c.in-Err.fault c.in-Err.ensures.verdict c.in-Err.ensures.count c.in-Err.ensures.name it.ending (string_bytes it.line) told)
    c.fault_answer.ensures
