use Rattle.wf_exprs.proofs.Growing.{grows_on}
use Rattle.wf_lower.proofs.initializing.when_null.Goals as goal

pub returns-in_err-test-clause-grows : goal.returns-in_err-test-clause-grows
returns-in_err-test-clause-grows c = grows_on (grows_on c.answer_null.ensures.grows c.variable.ensures.grows) c.negated.ensures.grows

pub returns-clause-grows : goal.returns-clause-grows
returns-clause-grows c = grows_on (grows_on (grows_on c.answer_null.ensures.grows c.variable.ensures.grows) c.negated.ensures.grows) c.when.ensures.grows
