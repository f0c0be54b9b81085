use Rattle.wf_exprs.proofs.Growing.{grows_on}
use Rattle.wf_lower_blocks.proofs.awaiting.begin_read.Goals as goal

pub returns-in_err-rest-clause-grows : goal.returns-in_err-rest-clause-grows
returns-in_err-rest-clause-grows c = grows_on (grows_on c.take_all.ensures.grows c.are_all_there.ensures.grows) c.when.ensures.grows

pub returns-clause-grows : goal.returns-clause-grows
returns-clause-grows c = grows_on (grows_on (grows_on c.take_all.ensures.grows c.are_all_there.ensures.grows) c.when.ensures.grows) c.begin_count.ensures.grows
