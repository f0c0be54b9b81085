use Rattle.wf_named.specs.contracts.building.NamedNodes.{the_view}
use Rattle.wf_named.proofs.DeclLemmas.{package_status}
use Rattle.wf_named.proofs.building.NamedNodes.push_status.Goals as goal

pub returns-clause-package : goal.returns-clause-package
returns-clause-package c = rw (← c.self.view_is) (package_status (the_view c.self.inside) c.args.text c.push.new.self.items c.in_ok-push.ensures.items)
