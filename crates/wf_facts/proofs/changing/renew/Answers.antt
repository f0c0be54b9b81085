use Rattle.std.proofs.Common.{sym, arith}
use Rattle.wf_facts.proofs.ChangeLemmas.{Renews-unmeant, Renews-kept, Renews-lost, Renews-all}
use Rattle.wf_facts.proofs.changing.renew.Goals as goal

pub returns-clause-claims : goal.returns-clause-claims
returns-clause-claims c x set =
    Renews-all c.args.t.now c.args.change c.args.meant.now.words c.loop-i.dropped.words c.args.list.now c.loop-i.list c.loop-i.i c.loop-i.invariant (omega arith) (omega arith) c.requires.few x set

pub loop-i-preserved-then-not-has : goal.loop-i-preserved-then-not-has
loop-i-preserved-then-not-has c =
    Renews-unmeant c.args.t.now c.args.change c.args.meant.now.words c.loop-i.dropped.words c.args.list.now c.loop-i.list c.loop-i.i c.loop-i.invariant (omega arith) c.requires.few (sym c.if-not-has.ensures)

pub loop-i-preserved-in_default : goal.loop-i-preserved-in_default
loop-i-preserved-in_default c =
    Renews-lost c.args.t.now c.args.change c.args.meant.now.words c.loop-i.dropped.words c.args.list.now c.loop-i.list c.loop-i.i c.loop-i.invariant (omega arith) c.requires.few _
    (sym c.if-not-has.ensures) c.in_default.ensures.claims c.insert.new.self.words c.insert.ensures

pub loop-i-preserved : goal.loop-i-preserved
loop-i-preserved c =
    Renews-kept c.args.t.now c.args.change c.args.meant.now.words c.loop-i.dropped.words c.args.list.now c.loop-i.list c.loop-i.i c.loop-i.invariant (omega arith) c.requires.few _
    (sym c.if-not-has.ensures) c.in-Some.f c.in-Some.ensures.claims c.in-Some.ensures.facts c.in-Some.ensures.same c.in-Some.ensures.head
