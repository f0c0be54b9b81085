use Rattle.std.proofs.Common.{◌<◌, length, Some, sym, ap, ◌∙◌, arith}
use Rattle.std.specs.Prelude.{slice_get}
use Rattle.wf_facts.proofs.DropLemmas.{item_at}
use Rattle.wf_facts.proofs.LeftLemmas.{got_is, got_later, left_here, left_on, left_past}
use Rattle.wf_facts.proofs.list.Facts.get.Goals as goal

pub loop-slot-preserved-then-has : goal.loop-slot-preserved-then-has
loop-slot-preserved-then-has c =
    let within : c.loop-slot.slot < length c.self.inside.slots.list = omega (arith, c.len-slot-end.ensures.value, c.loop-slot-test.true) in
    let it = item_at c.self.inside.slots.list c.loop-slot.slot within in
    ap (λ fs. slice_get fs c.loop-slot.before) (sym (left_on c.self.inside.gone.words c.self.inside.slots.list c.loop-slot.slot it.0 within (sym c.has.ensures ∙ c.if-has.true))) ∙ c.loop-slot.invariant

pub returns-then-before-eq0 : goal.returns-then-before-eq0
returns-then-before-eq0 c =
    let within : c.loop-slot.slot < length c.self.inside.slots.list = omega (arith, c.len-slot-end.ensures.value, c.loop-slot-test.true) in
    sym (ap Some (got_is c.self.inside.slots.list c.loop-slot.slot c.at.result c.at.ensures))
    ∙ ap (λ fs. slice_get fs 0) (sym (left_here c.self.inside.gone.words c.self.inside.slots.list c.loop-slot.slot c.at.result within (sym c.has.ensures ∙ c.if-has.false)))
    ∙ ap (slice_get _) (sym c.if-before-eq0.true) ∙ c.loop-slot.invariant

pub loop-slot-preserved : goal.loop-slot-preserved
loop-slot-preserved c =
    let within : c.loop-slot.slot < length c.self.inside.slots.list = omega (arith, c.len-slot-end.ensures.value, c.loop-slot-test.true) in
    let it = item_at c.self.inside.slots.list c.loop-slot.slot within in
    sym (got_later _ _ c.loop-slot.before (omega (arith, c.if-before-eq0.false)))
    ∙ ap (λ fs. slice_get fs c.loop-slot.before) (sym (left_here c.self.inside.gone.words c.self.inside.slots.list c.loop-slot.slot it.0 within (sym c.has.ensures ∙ c.if-has.false))) ∙ c.loop-slot.invariant

pub returns : goal.returns
returns c =
    ap (λ fs. slice_get fs c.loop-slot.before) (sym (left_past c.self.inside.gone.words c.self.inside.slots.list c.loop-slot.slot (omega (arith, c.len-slot-end.ensures.value, c.loop-slot-test.false)))) ∙ c.loop-slot.invariant
