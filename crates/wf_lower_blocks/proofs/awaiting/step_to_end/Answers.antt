use Rattle.wf_exprs.proofs.Growing.{grows_on}
use Rattle.wf_lower_blocks.proofs.awaiting.step_to_end.Goals as goal

pub returns-clause-grows : goal.returns-clause-grows
returns-clause-grows c = grows_on (grows_on c.end.ensures.grows c.place.ensures.grows) c.assign.ensures.grows
