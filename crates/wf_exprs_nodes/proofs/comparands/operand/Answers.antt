use Rattle.wf_exprs.proofs.Growing.{grows_on}
use Rattle.wf_exprs_nodes.proofs.comparands.operand.Goals as goal

pub returns-then-is_converted-clause-grows : goal.returns-then-is_converted-clause-grows
returns-then-is_converted-clause-grows c = grows_on c.number.ensures.grows c.with_zero.ensures.grows
