use Rattle.wf_exprs.proofs.Growing.{grows_on}
use Rattle.wf_lower_blocks.proofs.awaiting.step_behind.Goals as goal

pub returns-in_err-further-clause-grows : goal.returns-in_err-further-clause-grows
returns-in_err-further-clause-grows c = grows_on (grows_on (grows_on c.number.ensures.grows c.finish.ensures.grows) c.set_count.ensures.grows) c.number-2.ensures.grows

pub returns-clause-grows : goal.returns-clause-grows
returns-clause-grows c = grows_on (grows_on (grows_on (grows_on c.number.ensures.grows c.finish.ensures.grows) c.set_count.ensures.grows) c.number-2.ensures.grows) c.step_on.ensures.grows
