use Rattle.wf_exprs.proofs.Growing.{grows_on}
use Rattle.wf_lower_stmts.proofs.code.resume_here.Goals as goal

pub returns-clause-grows : goal.returns-clause-grows
returns-clause-grows c = grows_on (grows_on (grows_on c.finish.ensures.grows c.case.ensures.grows) c.number.ensures.grows) c.when.ensures.grows
