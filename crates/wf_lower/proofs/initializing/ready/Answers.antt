use Rattle.wf_exprs.proofs.Growing.{grows_on}
use Rattle.wf_lower.proofs.initializing.ready.Goals as goal

pub returns-clause-grows : goal.returns-clause-grows
returns-clause-grows c = grows_on (grows_on c.make_ready.ensures.grows c.clear.ensures.grows) c.when_null.ensures.grows
