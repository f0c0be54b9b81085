use Rattle.wf_exprs.proofs.Growing.{grows_on}
use Rattle.wf_lower_blocks.proofs.performing.moved.Goals as goal

pub returns-clause-grows : goal.returns-clause-grows
returns-clause-grows c = grows_on (grows_on c.finish.ensures.grows c.bytes_for.ensures.grows) c.move_bytes.ensures.grows
