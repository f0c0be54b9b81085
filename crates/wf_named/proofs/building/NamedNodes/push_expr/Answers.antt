use Rattle.std.proofs.Common.{arith}
use Rattle.wf_named.proofs.ShapeLemmas.{IsShaped-expr}
use Rattle.wf_named.proofs.PackageLemmas.{exprs_pushed, expr_added, stmts_kept, package_kept}
use Rattle.wf_named.proofs.building.NamedNodes.push_expr.Goals as goal
use Rattle.wf_named.specs.contracts.building.NamedNodes.{the_view}

pub invariant_of-self-2 : goal.invariant_of-self-2
invariant_of-self-2 c = IsShaped-expr _ c.args.node _ c.add_last.new.list.items c.self.invariant (rw (← c.self.view_is) at c.requires.parts) c.add_last.ensures.items

pub returns-clause-tree : goal.returns-clause-tree
returns-clause-tree c = rw (← c.self.view_is) (exprs_pushed (the_view c.self.inside) c.args.node c.add_last.new.list.items c.in_ok-add_last.ensures.items)

pub returns-clause-stmts : goal.returns-clause-stmts
returns-clause-stmts c = rw (← c.self.view_is) (stmts_kept _ c.args.node c.add_last.new.list.items c.self.invariant c.in_ok-add_last.ensures.items)

pub returns-clause-package : goal.returns-clause-package
returns-clause-package c = rw (← c.self.view_is) (package_kept _ c.args.node c.add_last.new.list.items c.self.invariant c.in_ok-add_last.ensures.items)

pub returns-clause-made : goal.returns-clause-made
returns-clause-made c = rw (← c.self.view_is) (expr_added (the_view c.self.inside) c.args.node c.add_last.new.list.items (record { 0 = c.len-number.result }) c.in_ok-add_last.ensures.items (omega (arith, c.len-number.ensures)))
