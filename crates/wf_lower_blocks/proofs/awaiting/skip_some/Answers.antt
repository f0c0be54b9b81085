use Rattle.wf_exprs.proofs.Growing.{grows_on}
use Rattle.wf_lower_blocks.proofs.awaiting.skip_some.Goals as goal

pub returns-clause-grows : goal.returns-clause-grows
returns-clause-grows c = grows_on (grows_on c.suspend_with.ensures.grows c.step_to_end.ensures.grows) c.take_skipped.ensures.grows
