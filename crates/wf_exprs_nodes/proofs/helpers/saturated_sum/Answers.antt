use Rattle.wf_exprs.proofs.Growing.{grows_on}
use Rattle.wf_exprs_nodes.proofs.helpers.saturated_sum.Goals as goal

pub returns-clause-grows : goal.returns-clause-grows
returns-clause-grows c = grows_on (grows_on (grows_on c.too_much.ensures.grows c.number.ensures.grows) c.of_both.ensures.grows) c.choice.ensures.grows
