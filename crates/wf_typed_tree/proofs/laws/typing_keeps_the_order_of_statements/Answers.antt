use Rattle.wf_typed_tree.proofs.laws.typing_keeps_the_order_of_statements.Goals as goal
use Rattle.wf_typed_tree.proofs.TypedOrder.{bodies_keep_order, packages_keep_order}

pub returns-clause-bodies : goal.returns-clause-bodies
returns-clause-bodies c = bodies_keep_order

pub returns-clause-packages : goal.returns-clause-packages
returns-clause-packages c = packages_keep_order
