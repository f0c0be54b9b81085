use Rattle.wf_exprs.proofs.Growing.{grows_on}
use Rattle.wf_exprs.proofs.rated.saturated_taken.Goals as goal

pub returns-clause-grows : goal.returns-clause-grows
returns-clause-grows c = grows_on (grows_on c.taken.ensures.grows c.taken-2.ensures.grows) c.saturated.ensures.grows
