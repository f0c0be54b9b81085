use Rattle.std.proofs.Common.{◌≡◌, ℕ, true, take}
use Rattle.graphs.specs.Graphs.{holds}
use Rattle.graphs.specs.Labels.{label}
use Rattle.graphs.proofs.cycles.stays.Given as goal

abbrev pub invariant-loop-b : goal.invariant-loop-b
invariant-loop-b l = (b : ℕ) → holds (take l.b-index l.row) b ≡ true → label l.labels.items b ≡ l.own → ⊥
