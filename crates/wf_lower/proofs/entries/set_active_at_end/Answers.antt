use Rattle.wf_lower.proofs.SharedLaws.{kept_exprs}
use Rattle.wf_exprs.proofs.Growing.{grows_on}
use Rattle.wf_lower.proofs.entries.set_active_at_end.Goals as goal

pub set_active-requires-clause-exprs : goal.set_active-requires-clause-exprs
set_active-requires-clause-exprs c = kept_exprs _ c.finish.ensures.grows c.requires

pub returns-clause-grows : goal.returns-clause-grows
returns-clause-grows c = grows_on c.finish.ensures.grows c.set_active.ensures.grows
