use Rattle.wf_exprs.proofs.Growing.{grows_on}
use Rattle.wf_lower_stmts.proofs.targets.set_local_slice.Goals as goal

pub returns-clause-grows : goal.returns-clause-grows
returns-clause-grows c = grows_on (grows_on c.set_length.ensures.grows c.set_pointer.ensures.grows) c.set_size.ensures.grows
