use Rattle.wf_exprs.proofs.Growing.{grows_on}
use Rattle.wf_lower_blocks.proofs.performing.when_greater.Goals as goal

pub returns-clause-grows : goal.returns-clause-grows
returns-clause-grows c = grows_on (grows_on (grows_on c.finish.ensures.grows c.set_size.ensures.grows) c.is_greater.ensures.grows) c.when.ensures.grows
