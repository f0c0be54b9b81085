use Rattle.wf_exprs.proofs.Growing.{grows_on}
use Rattle.wf_exprs_nodes.proofs.helpers.saturated_difference.Goals as goal

pub returns-clause-grows : goal.returns-clause-grows
returns-clause-grows c = grows_on (grows_on (grows_on c.of_both.ensures.grows c.number.ensures.grows) c.of_both-2.ensures.grows) c.choice.ensures.grows
