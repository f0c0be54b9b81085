use Rattle.std.proofs.Common.{◌<◌, length, sym, ap, ◌∙◌, arith}
use Rattle.wf_facts.proofs.DropLemmas.{item_at}
use Rattle.wf_facts.proofs.LeftLemmas.{left_here, left_on, left_past}
use Rattle.wf_facts.proofs.list.Facts.len.Goals as goal

pub loop-i-preserved-then-has : goal.loop-i-preserved-then-has
loop-i-preserved-then-has c =
    let within : c.loop-i.i < length c.self.inside.slots.list = omega (arith, c.len-i-end.ensures.value, c.loop-i-test.true) in
    let it = item_at c.self.inside.slots.list c.loop-i.i within in
    let next = left_on c.self.inside.gone.words c.self.inside.slots.list c.loop-i.i it.0 within (sym c.has.ensures ∙ c.if-has.true) in
    (omega (arith, c.loop-i.invariant.0), omega (arith, ap length next, c.loop-i.invariant.1))

pub loop-i-preserved : goal.loop-i-preserved
loop-i-preserved c =
    let within : c.loop-i.i < length c.self.inside.slots.list = omega (arith, c.len-i-end.ensures.value, c.loop-i-test.true) in
    let it = item_at c.self.inside.slots.list c.loop-i.i within in
    let next = left_here c.self.inside.gone.words c.self.inside.slots.list c.loop-i.i it.0 within (sym c.has.ensures ∙ c.if-has.false) in
    (omega (arith, c.loop-i.invariant.0), omega (arith, ap length next, c.loop-i.invariant.1))

pub returns-clause-value : goal.returns-clause-value
returns-clause-value c =
    let past = left_past c.self.inside.gone.words c.self.inside.slots.list c.loop-i.i (omega (arith, c.len-i-end.ensures.value, c.loop-i-test.false)) in
    omega (arith, ap length past, c.loop-i.invariant.1)
