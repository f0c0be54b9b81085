use Rattle.wf_exprs.proofs.Growing.{grows_on}
use Rattle.wf_lower_blocks.proofs.awaiting.taken.Goals as goal

pub returns-clause-grows : goal.returns-clause-grows
returns-clause-grows c = grows_on (grows_on c.count_on.ensures.grows c.step_by_one.ensures.grows) c.hold_next.ensures.grows
