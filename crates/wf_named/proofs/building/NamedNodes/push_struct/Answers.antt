use Rattle.wf_named.specs.contracts.building.NamedNodes.{the_view}
use Rattle.wf_named.proofs.DeclLemmas.{package_struct}
use Rattle.wf_named.proofs.building.NamedNodes.push_struct.Goals as goal

pub returns-clause-package : goal.returns-clause-package
returns-clause-package c = rw (← c.self.view_is) (package_struct (the_view c.self.inside) c.args.structure c.push.new.self.items c.in_ok-push.ensures.items)
