use Rattle.wf_exprs.proofs.Growing.{grows_on}
use Rattle.wf_lower_stmts.proofs.keeping.restore_held.Goals as goal

pub returns-clause-grows : goal.returns-clause-grows
returns-clause-grows c = grows_on (grows_on c.held_there.ensures.grows c.variable.ensures.grows) c.assign.ensures.grows
