use Rattle.std.proofs.Common.{◌≡◌, rules, arith}
use Rattle.wf_facts_exprs.proofs.ClosedLemmas.{closed_before, closed_behind, closed_last}
use Rattle.wf_facts_exprs.proofs.sets.FactSet.closed_up.Goals as goal

pub returns-clause-before : goal.returns-clause-before
returns-clause-before c =
    let w : c.loop-w.w ≡ 8 = omega arith in
    closed_before c.args.self.now.words c.loop-w.words c.args.place c.requires c.loop-w.invariant.long (λ j. search rules) (λ j a b. c.loop-w.invariant.done j a (omega (arith, b, w))) c.loop-w.invariant.rest

pub returns-clause-behind : goal.returns-clause-behind
returns-clause-behind c k a b =
    let w : c.loop-w.w ≡ 8 = omega arith in
    closed_behind c.args.self.now.words c.loop-w.words c.args.place c.requires c.loop-w.invariant.long (λ j. search rules) (λ j a b. c.loop-w.invariant.done j a (omega (arith, b, w))) c.loop-w.invariant.rest k a (omega (arith, b))

pub returns-clause-last : goal.returns-clause-last
returns-clause-last c =
    let w : c.loop-w.w ≡ 8 = omega arith in
    closed_last c.args.self.now.words c.loop-w.words c.args.place c.requires c.loop-w.invariant.long (λ j. search rules) (λ j a b. c.loop-w.invariant.done j a (omega (arith, b, w))) c.loop-w.invariant.rest (search rules)
