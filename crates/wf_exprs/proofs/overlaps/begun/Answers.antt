use Rattle.wf_exprs.proofs.Growing.{grows_on}
use Rattle.wf_exprs.proofs.overlaps.begun.Goals as goal

pub returns-in_ok-unmet-clause-grows : goal.returns-in_ok-unmet-clause-grows
returns-in_ok-unmet-clause-grows c = grows_on c.negated.ensures.grows c.negated-then-decides.ensures.grows
