use Rattle.std.proofs.Common.{◌≡◌, ◌<◌, ℕ, true, take}
use Rattle.graphs.specs.Graphs.{holds}
use Rattle.ground_tests.proofs.graph_tests.row_within.Given as goal

abbrev pub invariant-loop-b : goal.invariant-loop-b
invariant-loop-b l = (b : ℕ) → holds (take l.b-index l.row) b ≡ true → b < l.count
