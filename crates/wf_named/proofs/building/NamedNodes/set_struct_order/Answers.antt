use Rattle.wf_named.specs.contracts.building.NamedNodes.{the_view}
use Rattle.wf_named.proofs.DeclLemmas.{package_struct_order}
use Rattle.wf_named.proofs.building.NamedNodes.set_struct_order.Goals as goal

pub returns-clause-package : goal.returns-clause-package
returns-clause-package c = rw (← c.self.view_is) (package_struct_order (the_view c.self.inside) c.args.struct_order.items)
