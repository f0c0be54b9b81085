use Rattle.wf_exprs.proofs.Growing.{grows_on}
use Rattle.wf_lower_blocks.proofs.returning.replace_suspension.Goals as goal

pub returns-clause-grows : goal.returns-clause-grows
returns-clause-grows c = grows_on (grows_on c.replaced.ensures.grows c.begins_with.ensures.grows) c.when.ensures.grows
