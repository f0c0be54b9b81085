use Rattle.wf_bounds_laws.proofs.AnyOrder.{bounds_ignore_order, points_ignore_order}
use Rattle.wf_bounds_laws.proofs.refusals.the_order_of_methods_makes_no_difference.Goals as goal

pub returns-clause-bounds : goal.returns-clause-bounds
returns-clause-bounds c = bounds_ignore_order

pub returns-clause-points : goal.returns-clause-points
returns-clause-points c = points_ignore_order
