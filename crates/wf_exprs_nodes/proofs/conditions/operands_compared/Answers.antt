use Rattle.wf_exprs.proofs.Growing.{grows_on}
use Rattle.wf_exprs_nodes.proofs.conditions.operands_compared.Goals as goal

pub returns-in_err-right-clause-grows : goal.returns-in_err-right-clause-grows
returns-in_err-right-clause-grows c = grows_on c.left_compared.ensures.grows c.right_compared.ensures.grows

pub returns-clause-grows : goal.returns-clause-grows
returns-clause-grows c = grows_on (grows_on c.left_compared.ensures.grows c.right_compared.ensures.grows) c.compared.ensures.grows
