use Rattle.std.proofs.Common.{◌≡◌, ◌<◌, ℕ, [], true}
use Rattle.graphs.specs.Walking.{Walks, has_begun}
use Rattle.graphs.proofs.walk.leaving.Given as goal

abbrev pub invariant-loop-start : goal.invariant-loop-start
invariant-loop-start l = Walks l.rows l.walk × (l.walk.path.items ≡ []) × ((b : ℕ) → b < l.start → has_begun l.walk b ≡ true)
