use Rattle.std.proofs.Common.{◌≡◌, ◌-◌, ◌++◌, ◌∷◌, [], ℕ, List, length, ap, sym, subst, arith}
use Rattle.std.specs.Ordering.{nat_cmp}
use Rattle.std.specs.BTreeMap.{get_by}
use Rattle.std.specs.Cmp.Lexicographic.{slice_cmp}
use Rattle.std.proofs.lemmas.List.{length_push}
use Rattle.interner.specs.Interning.{Finds, IsNew}
use Rattle.interner.proofs.FoundLemmas.{seated}
use Rattle.interner.proofs.table.Interner.join.Goals as goal

-- The text and its number have joined.
pub invariant_of-self-in-Ok : goal.invariant_of-self-in-Ok
invariant_of-self-in-Ok c =
    let joined : c.push.new.self ≡ c.self.inside.texts ++ c.args.text.now ∷ [] = c.in_ok-push.ensures.ok in
    let last : c.len-number.result - 1 ≡ length c.self.inside.texts = omega (arith, c.len-number.ensures, ap (λ (texts : List (List ℕ)). length texts) joined, length_push c.self.inside.texts c.args.text.now) in
    subst (λ (texts : List (List ℕ)). Finds c.seat.new.self.slots.items (λ text. get_by (λ key. slice_cmp nat_cmp text key.items) c.seat.new.self.others) texts) (sym joined)
    (seated c.widen.new.self.slots.items c.seat.new.self.slots.items (λ text. get_by (λ key. slice_cmp nat_cmp text key.items) c.widen.new.self.others) (λ text. get_by (λ key. slice_cmp nat_cmp text key.items) c.seat.new.self.others)
    c.self.inside.texts c.args.text.now (c.len-number.result - 1) c.in_ok-widen.ensures.room last
    (subst (λ (texts : List (List ℕ)). IsNew texts c.args.text.now) (sym c.self.view_is) c.requires.new) c.in_ok-widen.ensures.finds c.in-Ok.ensures.ok)
