use Rattle.wf_named.specs.contracts.building.NamedNodes.{the_view}
use Rattle.wf_named.proofs.DeclLemmas.{IsShaped-const, package_const}
use Rattle.wf_named.proofs.building.NamedNodes.push_const.Goals as goal

pub invariant_of-self-2 : goal.invariant_of-self-2
invariant_of-self-2 c = IsShaped-const _ c.args.constant _ c.push.new.self.items c.self.invariant (rw (← c.self.view_is) at c.requires.parts) c.push.ensures.items

pub returns-clause-package : goal.returns-clause-package
returns-clause-package c = rw (← c.self.view_is) (package_const (the_view c.self.inside) c.args.constant c.push.new.self.items c.in_ok-push.ensures.items)
