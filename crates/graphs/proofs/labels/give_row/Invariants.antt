use Rattle.std.proofs.Common.{◌≡◌, ℕ, true, Some, length, take, slice_get}
use Rattle.graphs.specs.Graphs.{holds}
use Rattle.graphs.specs.Labels.{goes_back, IsRound}
use Rattle.graphs.proofs.labels.give_row.Given as goal

abbrev pub invariant-loop-a : goal.invariant-loop-a
invariant-loop-a l =
    IsRound (length l.turned) (goes_back l.turned) l.order.items l.labels.items l.queue.items l.p l.i × (slice_get l.queue.items l.p ≡ Some l.b)
    × ((a : ℕ) → holds (take l.a-index l.row) a ≡ true → holds l.queue.items a ≡ true)
