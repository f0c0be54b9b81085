use Rattle.std.proofs.Common.{◌≤◌, length}
use Rattle.graphs.specs.Labels.{goes_back, AreJoined}
use Rattle.graphs.proofs.labels.labelled.Given as goal

abbrev pub invariant-loop-i : goal.invariant-loop-i
invariant-loop-i l =
    AreJoined (length l.turned) (goes_back l.turned) l.order.items l.labels.items l.queue.items l.i × (l.i ≤ length l.order.items)

abbrev pub decreases-loop-i : goal.decreases-loop-i
decreases-loop-i l = l.i
