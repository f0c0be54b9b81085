use Rattle.std.proofs.Common.{◌≡◌, ◌<◌, ◌+◌, ℕ, false, List, Option, unwrap_or, get_or, ap, sym, ◌∙◌, arith}
use Rattle.std.specs.Ordering.{nat_cmp}
use Rattle.std.specs.BTreeMap.{get_by}
use Rattle.std.specs.Cmp.Lexicographic.{slice_cmp}
use Rattle.interner.specs.declared.places.TheConstants.{REACH}
use Rattle.interner.specs.Interning.{digest, first_slot}
use Rattle.interner.proofs.FoundLemmas.{slot_read, found_free, found_taken, found_all}
use Rattle.interner.proofs.places.Places.find.Goals as goal

-- A free slot.
pub returns-then-slot-eq0 : goal.returns-then-slot-eq0
returns-then-slot-eq0 c =
    let first : c.first-first.result ≡ first_slot c.args.self.now.slots.items (digest c.args.text.now) = c.first-first.ensures.value ∙ ap (λ (made : ℕ). first_slot c.args.self.now.slots.items made) c.requires.digest in
    let before : c.loop-at.at < first_slot c.args.self.now.slots.items (digest c.args.text.now) + REACH = omega (arith, first, c.loop-at-test.true) in
    let slot : c.unwrap_or-slot.result ≡ get_or c.args.self.now.slots.items c.loop-at.at 0 =
    c.unwrap_or-slot.ensures ∙ ap (λ (o : Option ℕ). unwrap_or o 0) c.copied.ensures ∙ slot_read c.get.result c.deref.result.now c.loop-at.at c.get.ensures.lookup.0 c.get.ensures.lookup.1
    ∙ ap (λ (slots : List ℕ). get_or slots c.loop-at.at 0) c.deref.ensures.value in
    sym (c.loop-at.invariant ∙ found_free c.args.texts.now c.args.self.now.slots.items c.args.text.now (get_by (λ key. slice_cmp nat_cmp c.args.text.now key.items) c.args.self.now.others) c.loop-at.at
    (first_slot c.args.self.now.slots.items (digest c.args.text.now) + REACH) c.unwrap_or-slot.result before slot c.if-slot-eq0.true)

-- A slot with another's number.
pub loop-at-preserved : goal.loop-at-preserved
loop-at-preserved c =
    let first : c.first-first.result ≡ first_slot c.args.self.now.slots.items (digest c.args.text.now) = c.first-first.ensures.value ∙ ap (λ (made : ℕ). first_slot c.args.self.now.slots.items made) c.requires.digest in
    let before : c.loop-at.at < first_slot c.args.self.now.slots.items (digest c.args.text.now) + REACH = omega (arith, first, c.loop-at-test.true) in
    let slot : c.unwrap_or-slot.result ≡ get_or c.args.self.now.slots.items c.loop-at.at 0 =
    c.unwrap_or-slot.ensures ∙ ap (λ (o : Option ℕ). unwrap_or o 0) c.copied.ensures ∙ slot_read c.get.result c.deref.result.now c.loop-at.at c.get.ensures.lookup.0 c.get.ensures.lookup.1
    ∙ ap (λ (slots : List ℕ). get_or slots c.loop-at.at 0) c.deref.ensures.value in
    c.loop-at.invariant ∙ found_taken c.args.texts.now c.args.self.now.slots.items c.args.text.now (get_by (λ key. slice_cmp nat_cmp c.args.text.now key.items) c.args.self.now.others) c.loop-at.at
    (first_slot c.args.self.now.slots.items (digest c.args.text.now) + REACH) c.unwrap_or-slot.result c.text.result.now false before slot c.if-slot-eq0.false c.text.ensures (sym c.eq.ensures ∙ c.if-eq.false)

-- All slots have others' numbers.
pub returns : goal.returns
returns c =
    let first : c.first-first.result ≡ first_slot c.args.self.now.slots.items (digest c.args.text.now) = c.first-first.ensures.value ∙ ap (λ (made : ℕ). first_slot c.args.self.now.slots.items made) c.requires.digest in
    c.copied-2.ensures ∙ c.get-2.ensures.value
    ∙ sym (c.loop-at.invariant ∙ found_all c.args.texts.now c.args.self.now.slots.items c.args.text.now (get_by (λ key. slice_cmp nat_cmp c.args.text.now key.items) c.args.self.now.others) c.loop-at.at
    (first_slot c.args.self.now.slots.items (digest c.args.text.now) + REACH) (omega (arith, first, c.loop-at-test.false)))
