use Rattle.std.proofs.lemmas.Option.{slice_get_within}
use Rattle.wf_named.proofs.ShapeLemmas.{IsShaped-interned}
use Rattle.wf_named.proofs.PackageLemmas.{stmts_interned, package_interned}
use Rattle.wf_named.proofs.building.NamedNodes.intern.Goals as goal

pub invariant_of-self-2 : goal.invariant_of-self-2
invariant_of-self-2 c = IsShaped-interned c.number_of.result _ c.args.text.now c.number_of.new.self c.self.invariant c.number_of.ensures.joins c.number_of.ensures.err c.number_of.ensures.unique

pub returns-clause-stmts : goal.returns-clause-stmts
returns-clause-stmts c = rw (← c.self.view_is) (stmts_interned _ c.args.text.now c.number_of.new.self c.self.invariant c.in_ok-number.ensures.joins)

pub returns-clause-package : goal.returns-clause-package
returns-clause-package c = rw (← c.self.view_is) (package_interned _ c.args.text.now c.number_of.new.self c.self.invariant c.in_ok-number.ensures.joins)

pub returns-clause-within : goal.returns-clause-within
returns-clause-within c = slice_get_within c.number_of.new.self c.in_ok-number.number.0 _ c.in_ok-number.ensures.found
