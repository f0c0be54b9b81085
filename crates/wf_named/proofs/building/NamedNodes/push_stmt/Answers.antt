use Rattle.std.proofs.Common.{arith}
use Rattle.wf_named.proofs.ShapeLemmas.{IsShaped-stmt}
use Rattle.wf_named.proofs.PackageLemmas.{stmts_pushed, stmt_added, package_stays}
use Rattle.wf_named.proofs.building.NamedNodes.push_stmt.Goals as goal
use Rattle.wf_named.specs.contracts.building.NamedNodes.{the_view}

pub invariant_of-self-2 : goal.invariant_of-self-2
invariant_of-self-2 c = IsShaped-stmt _ c.args.node _ c.add_last.new.list.items c.self.invariant (rw (← c.self.view_is) at c.requires.parts) c.add_last.ensures.items

pub returns-clause-tree : goal.returns-clause-tree
returns-clause-tree c = rw (← c.self.view_is) (stmts_pushed (the_view c.self.inside) c.args.node c.add_last.new.list.items c.in_ok-add_last.ensures.items)

pub returns-clause-package : goal.returns-clause-package
returns-clause-package c = rw (← c.self.view_is) (package_stays _ c.args.node c.add_last.new.list.items c.self.invariant c.in_ok-add_last.ensures.items)

pub returns-clause-made : goal.returns-clause-made
returns-clause-made c = rw (← c.self.view_is) (stmt_added (the_view c.self.inside) c.args.node c.add_last.new.list.items (record { 0 = c.len-number.result }) c.in_ok-add_last.ensures.items (omega (arith, c.len-number.ensures)))
