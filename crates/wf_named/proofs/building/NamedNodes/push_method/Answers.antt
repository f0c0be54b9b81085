use Rattle.wf_named.specs.contracts.building.NamedNodes.{the_view}
use Rattle.wf_named.proofs.DeclLemmas.{package_method}
use Rattle.wf_named.proofs.building.NamedNodes.push_method.Goals as goal

pub returns-clause-package : goal.returns-clause-package
returns-clause-package c = rw (← c.self.view_is) (package_method (the_view c.self.inside) c.args.method c.add_last.new.list.items c.in_ok-add_last.ensures.items)
