use Rattle.wf_exprs.proofs.Growing.{grows_on}
use Rattle.wf_lower_blocks.proofs.awaiting.read_all.Goals as goal

pub returns-in_err-test-clause-grows : goal.returns-in_err-test-clause-grows
returns-in_err-test-clause-grows c = grows_on (grows_on (grows_on c.held.ensures.grows c.put_into.ensures.grows) c.suspend_with.ensures.grows) c.lacks.ensures.grows

pub returns-clause-grows : goal.returns-clause-grows
returns-clause-grows c = grows_on (grows_on (grows_on (grows_on c.held.ensures.grows c.put_into.ensures.grows) c.suspend_with.ensures.grows) c.lacks.ensures.grows) c.when.ensures.grows

pub when-requires-clause-rest : goal.when-requires-clause-rest
when-requires-clause-rest c = (grows_on c.suspend_with.ensures.grows c.lacks.ensures.grows).more_stmts c.in_ok-rest.rest.0 c.in_ok-rest.ensures.made.there
