use Rattle.wf_named.specs.contracts.building.NamedNodes.{the_view}
use Rattle.wf_named.proofs.DeclLemmas.{package_order}
use Rattle.wf_named.proofs.building.NamedNodes.set_order.Goals as goal

pub returns-clause-package : goal.returns-clause-package
returns-clause-package c = rw (← c.self.view_is) (package_order (the_view c.self.inside) c.args.order.items)
