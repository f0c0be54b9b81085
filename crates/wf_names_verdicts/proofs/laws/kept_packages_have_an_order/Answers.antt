use Rattle.wf_names_verdicts.proofs.KeptOrders.{kept-have-orders}
use Rattle.wf_names_verdicts.proofs.laws.kept_packages_have_an_order.Goals as goal

pub returns : goal.returns
returns c = kept-have-orders
