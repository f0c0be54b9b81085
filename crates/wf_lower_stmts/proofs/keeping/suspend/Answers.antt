use Rattle.wf_exprs.proofs.Growing.{grows_on}
use Rattle.wf_lower_stmts.proofs.keeping.suspend.Goals as goal

pub returns-in_err-rest-3-clause-grows : goal.returns-in_err-rest-3-clause-grows
returns-in_err-rest-3-clause-grows c = grows_on (grows_on c.give.ensures.grows c.keep_point.ensures.grows) c.save_started.ensures.grows

pub returns-clause-grows : goal.returns-clause-grows
returns-clause-grows c = grows_on (grows_on (grows_on c.give.ensures.grows c.keep_point.ensures.grows) c.save_started.ensures.grows) c.save_locals.ensures.grows
