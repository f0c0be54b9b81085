use Rattle.std.proofs.Common.{◌≡◌, ◌<◌, ℕ, true, length}
use Rattle.graphs.specs.Graphs.{goes}
use Rattle.ground_tests.proofs.graph_tests.all_within.Given as goal

abbrev pub invariant-loop-row : goal.invariant-loop-row
invariant-loop-row l = (a b : ℕ) → a < l.row-index → goes l.rows a b ≡ true → b < length l.rows
