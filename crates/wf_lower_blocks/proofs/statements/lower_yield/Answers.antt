use Rattle.wf_exprs.proofs.Growing.{grows_on}
use Rattle.wf_lower_blocks.proofs.statements.lower_yield.Goals as goal

pub returns-clause-grows : goal.returns-clause-grows
returns-clause-grows c = grows_on (grows_on c.resume_here.ensures.grows c.status_constant.ensures.grows) c.suspend.ensures.grows
