use Rattle.wf_exprs.proofs.Growing.{grows_on}
use Rattle.wf_lower.proofs.shared.disable_at_end.Goals as goal

pub returns-clause-grows : goal.returns-clause-grows
returns-clause-grows c = grows_on (grows_on (grows_on c.finish.ensures.grows c.number.ensures.grows) c.of_self.ensures.grows) c.assign.ensures.grows
