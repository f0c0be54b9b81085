use Rattle.wf_exprs.proofs.Growing.{grows_on}
use Rattle.wf_lower_stmts.proofs.keeping.suspend_with.Goals as goal

pub returns-clause-grows : goal.returns-clause-grows
returns-clause-grows c = grows_on (grows_on c.finish.ensures.grows c.status_constant.ensures.grows) c.suspend.ensures.grows
