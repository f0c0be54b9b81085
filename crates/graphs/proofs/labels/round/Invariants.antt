use Rattle.std.proofs.Common.{◌-◌, length}
use Rattle.graphs.specs.Labels.{goes_back, IsRound}
use Rattle.graphs.proofs.labels.round.Given as goal

abbrev pub invariant-loop-p : goal.invariant-loop-p
invariant-loop-p l = IsRound (length l.turned) (goes_back l.turned) l.order.items l.labels.items l.queue.items l.p l.i

abbrev pub decreases-loop-p : goal.decreases-loop-p
decreases-loop-p l = length l.turned - l.p
