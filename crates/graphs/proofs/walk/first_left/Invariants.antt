use Rattle.std.proofs.Common.{◌≡◌, ◌-◌, true, false, ℕ, length, take, slice_index_or}
use Rattle.graphs.specs.Graphs.{holds}
use Rattle.graphs.proofs.walk.first_left.Given as goal

abbrev pub invariant-loop-i : goal.invariant-loop-i
invariant-loop-i l = (b : ℕ) → holds (take l.i l.row) b ≡ true → slice_index_or l.flags.items b false ≡ true

abbrev pub decreases-loop-i : goal.decreases-loop-i
decreases-loop-i l = length l.row - l.i
