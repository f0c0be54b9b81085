use Rattle.wf_exprs.proofs.Growing.{grows_on}
use Rattle.wf_lower_blocks.proofs.blocks.end_of_body.Goals as goal

pub returns-clause-grows : goal.returns-clause-grows
returns-clause-grows c = grows_on (grows_on c.finish.ensures.grows c.again_label.ensures.grows) c.labelled.ensures.grows
