use Rattle.wf_exprs.proofs.Growing.{grows_on}
use Rattle.wf_lower_blocks.proofs.calling.end_with.Goals as goal

pub returns-clause-grows : goal.returns-clause-grows
returns-clause-grows c = grows_on (grows_on (grows_on c.suspend_at_end.ensures.grows c.give_at_end.ensures.grows) c.is_suspended.ensures.grows) c.when.ensures.grows
