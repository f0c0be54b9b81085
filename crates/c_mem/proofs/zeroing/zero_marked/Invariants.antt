use Rattle.std.proofs.Common.{◌-◌, length}
use Rattle.c_mem.proofs.Passing.{ZeroedSoFar}
use Rattle.c_mem.proofs.zeroing.zero_marked.Given as goal

abbrev pub invariant-loop-at : goal.invariant-loop-at
invariant-loop-at l = ZeroedSoFar l.first l.initial.objects l.at l.last l.objects l.marks

abbrev pub decreases-loop-at : goal.decreases-loop-at
decreases-loop-at l = length l.initial.objects - l.at
