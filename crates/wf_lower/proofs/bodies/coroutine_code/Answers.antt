use Rattle.wf_exprs.proofs.Growing.{grows_on}
use Rattle.wf_lower.proofs.bodies.coroutine_code.Goals as goal

pub returns-in_err-zero-clause-grows : goal.returns-in_err-zero-clause-grows
returns-in_err-zero-clause-grows c = grows_on (grows_on c.select_point.ensures.grows c.restored.ensures.grows) c.number.ensures.grows

pub returns-in_err-there-clause-grows : goal.returns-in_err-there-clause-grows
returns-in_err-there-clause-grows c = grows_on (grows_on (grows_on c.select_point.ensures.grows c.restored.ensures.grows) c.number.ensures.grows) c.point_there.ensures.grows

pub returns-clause-grows : goal.returns-clause-grows
returns-clause-grows c = grows_on (grows_on (grows_on (grows_on c.select_point.ensures.grows c.restored.ensures.grows) c.number.ensures.grows) c.point_there.ensures.grows) c.assign.ensures.grows
