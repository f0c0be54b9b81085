use Rattle.graphs.proofs.OrderLemmas.{no-cycle}
use Rattle.graphs.proofs.laws.an_order_has_no_cycle.Goals as goal

pub returns : goal.returns
returns c = no-cycle
