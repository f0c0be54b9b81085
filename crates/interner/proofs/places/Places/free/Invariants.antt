use Rattle.std.proofs.Common.{◌≢◌, ℕ, ◌<◌, ◌≤◌, get_or}
use Rattle.interner.specs.Interning.{first_slot}
use Rattle.interner.proofs.places.Places.free.Given as goal

-- The slots before this one are taken.
abbrev pub invariant-loop-at : goal.invariant-loop-at
invariant-loop-at l = (k : ℕ) → first_slot l.self.slots.items l.fn.made ≤ k → k < l.at → get_or l.self.slots.items k 0 ≢ 0
