use Rattle.wf_exprs.proofs.Growing.{grows_on}
use Rattle.wf_lower.proofs.shared.settle_error.Goals as goal

pub returns-clause-grows : goal.returns-clause-grows
returns-clause-grows c = grows_on (grows_on (grows_on c.finish.ensures.grows c.disable_at_end.ensures.grows) c.first_is.ensures.grows) c.when.ensures.grows
