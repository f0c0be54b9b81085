use Rattle.wf_tool.proofs.VerdictLaws.{verdicts_exclude}
use Rattle.wf_tool.proofs.laws.one_verdict.Goals as goal

pub returns : goal.returns
returns c = verdicts_exclude
