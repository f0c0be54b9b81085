use Rattle.wf_exprs.proofs.Growing.{grows_on}
use Rattle.wf_lower_blocks.proofs.awaiting.skip_on.Goals as goal

pub returns-in_err-test-clause-grows : goal.returns-in_err-test-clause-grows
returns-in_err-test-clause-grows c = grows_on (grows_on c.step_by_held.ensures.grows c.skip_some.ensures.grows) c.held_and_there.ensures.grows

pub returns-clause-grows : goal.returns-clause-grows
returns-clause-grows c = grows_on (grows_on (grows_on c.step_by_held.ensures.grows c.skip_some.ensures.grows) c.held_and_there.ensures.grows) c.when.ensures.grows
