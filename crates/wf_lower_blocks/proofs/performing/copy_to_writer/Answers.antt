use Rattle.wf_exprs.proofs.Growing.{grows_on}
use Rattle.wf_lower_blocks.proofs.performing.copy_to_writer.Goals as goal

pub returns-clause-grows : goal.returns-clause-grows
returns-clause-grows c = grows_on (grows_on (grows_on c.step_by_size.ensures.grows c.slice_on.ensures.grows) c.move_to_room.ensures.grows) c.least_of_room.ensures.grows

pub returns-in_err-rest-2-clause-grows : goal.returns-in_err-rest-2-clause-grows
returns-in_err-rest-2-clause-grows c = grows_on (grows_on c.step_by_size.ensures.grows c.slice_on.ensures.grows) c.move_to_room.ensures.grows
