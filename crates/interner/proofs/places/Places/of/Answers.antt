use Rattle.std.proofs.Common.{ℕ, List, take, sym, subst, arith}
use Rattle.std.specs.Ordering.{nat_cmp}
use Rattle.std.specs.BTreeMap.{get_by}
use Rattle.std.specs.Cmp.Lexicographic.{slice_cmp}
use Rattle.std.proofs.lemmas.List.{length-take-le}
use Rattle.std.proofs.lemmas.Option.{slice_get_within}
use Rattle.interner.specs.Interning.{Finds}
use Rattle.interner.proofs.FoundLemmas.{seated, new_after, one_taken}
use Rattle.interner.proofs.places.Places.of.Goals as goal

pub loop-number-preserved : goal.loop-number-preserved
loop-number-preserved c = (
  omega (arith, c.in_ok-seat.ensures.slots, c.loop-number.invariant.0),
  subst (λ (texts : List (List ℕ)). Finds c.seat.new.self.slots.items (λ text. get_by (λ key. slice_cmp nat_cmp text key.items) c.seat.new.self.others) texts)
      (sym (one_taken c.args.texts.now c.loop-number.number c.text-text.result.now c.text-text.ensures))
      (seated c.loop-number.places.slots.items c.seat.new.self.slots.items (λ text. get_by (λ key. slice_cmp nat_cmp text key.items) c.loop-number.places.others) (λ text. get_by (λ key. slice_cmp nat_cmp text key.items) c.seat.new.self.others)
      (take c.loop-number.number c.args.texts.now) c.text-text.result.now c.loop-number.number c.loop-number.invariant.0
      (sym (length-take-le c.loop-number.number c.args.texts.now (omega (arith, slice_get_within c.args.texts.now c.loop-number.number c.text-text.result.now c.text-text.ensures))))
      (new_after c.args.texts.now c.loop-number.number c.text-text.result.now c.requires.distinct c.text-text.ensures) c.loop-number.invariant.1 c.in_ok-seat.ensures.ok),
)
