use Rattle.wf_exprs.proofs.Growing.{grows_on}
use Rattle.wf_lower_stmts.proofs.keeping.keep_point.Goals as goal

pub returns-clause-grows : goal.returns-clause-grows
returns-clause-grows c = grows_on (grows_on c.number.ensures.grows c.point_there.ensures.grows) c.assign.ensures.grows
