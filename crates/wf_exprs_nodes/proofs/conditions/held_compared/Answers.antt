use Rattle.wf_exprs.proofs.Growing.{grows_on}
use Rattle.wf_exprs_nodes.proofs.conditions.held_compared.Goals as goal

pub returns-then-not-asks_same-clause-grows : goal.returns-then-not-asks_same-clause-grows
returns-then-not-asks_same-clause-grows c = grows_on (grows_on c.status.ensures.grows c.status-2.ensures.grows) c.two.ensures.grows

pub returns-then-is_constant-clause-grows : goal.returns-then-is_constant-clause-grows
returns-then-is_constant-clause-grows c = grows_on (grows_on c.status.ensures.grows c.status-2.ensures.grows) c.two-then-is_constant.ensures.grows

pub returns-else-is_constant-clause-grows : goal.returns-else-is_constant-clause-grows
returns-else-is_constant-clause-grows c = grows_on (grows_on c.status.ensures.grows c.status-2.ensures.grows) c.same.ensures.grows
