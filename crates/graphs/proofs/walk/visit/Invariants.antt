use Rattle.std.proofs.Common.{◌≡◌, true, length}
use Rattle.graphs.specs.Walking.{Walks, Remembers, has_begun, steps_left}
use Rattle.graphs.proofs.walk.visit.Given as goal

abbrev pub invariant-loop-a : goal.invariant-loop-a
invariant-loop-a l = Walks l.rows l.walk × Remembers l.fn.walk l.walk × (has_begun l.walk l.start ≡ true)

abbrev pub decreases-loop-a : goal.decreases-loop-a
decreases-loop-a l = steps_left (length l.rows) l.walk
