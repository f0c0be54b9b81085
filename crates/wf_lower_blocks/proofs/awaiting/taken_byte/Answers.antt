use Rattle.wf_exprs.proofs.Growing.{grows_on}
use Rattle.wf_lower_blocks.proofs.awaiting.taken_byte.Goals as goal

pub returns-in_err-before-clause-grows : goal.returns-in_err-before-clause-grows
returns-in_err-before-clause-grows c = grows_on (grows_on (grows_on c.bytes.ensures.grows c.place.ensures.grows) c.number.ensures.grows) c.two.ensures.grows

pub returns-clause-grows : goal.returns-clause-grows
returns-clause-grows c =
    grows_on (grows_on (grows_on (grows_on c.bytes.ensures.grows c.place.ensures.grows) c.number.ensures.grows) c.two.ensures.grows) c.element.ensures.grows
