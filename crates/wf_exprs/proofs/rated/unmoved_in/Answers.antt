use Rattle.wf_exprs.proofs.Growing.{grows_on}
use Rattle.wf_exprs.proofs.rated.unmoved_in.Goals as goal

pub returns-in_ok-code-clause-grows : goal.returns-in_ok-code-clause-grows
returns-in_ok-code-clause-grows c = grows_on c.cast.ensures.grows c.unmoved.ensures.grows
