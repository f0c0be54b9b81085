use Rattle.std.proofs.Common.{◌≡◌, ℕ, ◌+◌, ◌-◌, ◌<◌, ◌≤◌, false, Some}
use Rattle.std.specs.Prelude.{slice_get}
use Rattle.c_mem.proofs.zeroing.mark.Given as goal

abbrev pub invariant-loop-at : goal.invariant-loop-at
invariant-loop-at l = (l.last < l.at) × (((k : ℕ) → l.last < k → k < l.at → slice_get l.marks k ≡ Some false) × ((k : ℕ) → k ≤ l.last → slice_get l.marks k ≡ slice_get l.initial.marks k))

abbrev pub decreases-loop-at : goal.decreases-loop-at
decreases-loop-at l = l.number + 1 - l.at
