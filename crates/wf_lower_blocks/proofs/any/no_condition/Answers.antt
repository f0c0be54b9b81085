use Rattle.wf_exprs.proofs.Growing.{grows_on}
use Rattle.wf_lower_blocks.proofs.any.no_condition.Goals as goal

pub returns-clause-grows : goal.returns-clause-grows
returns-clause-grows c = grows_on (grows_on (grows_on c.local.ensures.grows c.number.ensures.grows) c.two.ensures.grows) c.two-2.ensures.grows
