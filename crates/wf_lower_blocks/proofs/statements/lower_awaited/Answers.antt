use Rattle.wf_exprs.proofs.Growing.{grows_on}
use Rattle.wf_lower_blocks.proofs.statements.lower_awaited.Goals as goal

pub returns-clause-grows : goal.returns-clause-grows
returns-clause-grows c = grows_on (grows_on c.awoken_call.ensures.grows c.resume_here.ensures.grows) c.begun_call.ensures.grows
