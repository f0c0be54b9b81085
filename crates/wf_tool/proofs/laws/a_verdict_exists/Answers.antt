use Rattle.wf_tool.proofs.WholeVerdicts.{verdicts_exist}
use Rattle.wf_tool.proofs.laws.a_verdict_exists.Goals as goal

pub returns : goal.returns
returns c = verdicts_exist
