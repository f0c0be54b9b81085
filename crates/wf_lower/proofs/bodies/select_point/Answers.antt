use Rattle.wf_exprs.proofs.Growing.{grows_on}
use Rattle.wf_lower.proofs.bodies.select_point.Goals as goal

pub returns-in_err-on-clause-grows : goal.returns-in_err-on-clause-grows
returns-in_err-on-clause-grows c = grows_on (grows_on c.ending.ensures.grows c.from_start.ensures.grows) c.variable.ensures.grows

pub returns-clause-grows : goal.returns-clause-grows
returns-clause-grows c = grows_on (grows_on (grows_on c.ending.ensures.grows c.from_start.ensures.grows) c.variable.ensures.grows) c.put_stmt.ensures.grows
