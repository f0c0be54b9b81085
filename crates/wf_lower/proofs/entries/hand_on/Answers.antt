use Rattle.wf_lower.proofs.EntryLaws.{pushed_arg}
use Rattle.wf_lower.proofs.entries.hand_on.Goals as goal

pub returns-clause-made : goal.returns-clause-made
returns-clause-made c = pushed_arg _ _ _ _ _ _ c.push.result c.put.ensures.grows c.in_ok-value.ensures.made c.push.ensures.ok
