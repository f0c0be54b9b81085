use Rattle.wf_exprs.proofs.Growing.{grows_on}
use Rattle.wf_lower_stmts.proofs.places.end_of_room.Goals as goal

pub returns-clause-grows : goal.returns-clause-grows
returns-clause-grows c = grows_on (grows_on (grows_on c.buffer_member.ensures.grows c.buffer_member-2.ensures.grows) c.buffer_member-3.ensures.grows) c.choice.ensures.grows
