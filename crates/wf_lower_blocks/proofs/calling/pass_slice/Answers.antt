use Rattle.wf_lower_blocks.proofs.CallLaws.{pushed_two}
use Rattle.wf_lower_blocks.proofs.calling.pass_slice.Goals as goal

pub returns-clause-pushed : goal.returns-clause-pushed
returns-clause-pushed c = pushed_two _ _ _ _ _ _ _ _ _ c.push-2.result c.slice_value.ensures.grows c.in_ok-it.ensures.made.pointer c.in_ok-it.ensures.made.length.code c.in_ok-push.ensures.ok c.push-2.ensures.ok
