use Rattle.wf_lower.proofs.EntryLaws.{pushed_test}
use Rattle.wf_lower.proofs.entries.add_missing.Goals as goal

pub returns-clause-made : goal.returns-clause-made
returns-clause-made c = pushed_test _ _ _ _ _ _ c.push.result c.missing.ensures.grows c.in_ok-test.ensures.made c.push.ensures.ok
