use Rattle.wf_lower_blocks.proofs.CallLaws.{pushed}
use Rattle.wf_lower_blocks.proofs.calling.pass_single.Goals as goal

pub returns-clause-pushed : goal.returns-clause-pushed
returns-clause-pushed c = pushed _ _ _ _ _ _ c.push.result c.single_value.ensures.grows c.in_ok-value.ensures.made c.push.ensures.ok
