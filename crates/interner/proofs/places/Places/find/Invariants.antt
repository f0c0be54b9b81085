use Rattle.std.proofs.Common.{◌≡◌, ◌+◌, ◌-◌}
use Rattle.std.specs.Ordering.{nat_cmp}
use Rattle.std.specs.BTreeMap.{get_by}
use Rattle.std.specs.Cmp.Lexicographic.{slice_cmp}
use Rattle.interner.specs.declared.places.TheConstants.{REACH}
use Rattle.interner.specs.Interning.{digest, first_slot, found, look_up}
use Rattle.interner.proofs.places.Places.find.Given as goal

-- The slots before this one have told nothing.
abbrev pub invariant-loop-at : goal.invariant-loop-at
invariant-loop-at l =
    look_up l.texts l.self.slots.items (λ text. get_by (λ key. slice_cmp nat_cmp text key.items) l.self.others) l.text
    ≡ found l.texts l.self.slots.items l.text (get_by (λ key. slice_cmp nat_cmp l.text key.items) l.self.others) l.at (first_slot l.self.slots.items (digest l.text) + REACH - l.at)
