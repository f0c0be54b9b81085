use Rattle.wf_exprs.proofs.Growing.{grows_on}
use Rattle.wf_lower.proofs.initializing.answer_null.Goals as goal

pub returns-clause-grows : goal.returns-clause-grows
returns-clause-grows c = grows_on (grows_on c.finish.ensures.grows c.status_constant.ensures.grows) c.leave.ensures.grows
