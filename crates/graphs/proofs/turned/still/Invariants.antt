use Rattle.std.proofs.Common.{◌≡◌, ℕ, false, length}
use Rattle.graphs.specs.Graphs.{goes}
use Rattle.graphs.proofs.turned.still.Given as goal

abbrev pub invariant-loop-number : goal.invariant-loop-number
invariant-loop-number l = (length l.rows.items ≡ l._number) × ((a b : ℕ) → goes l.rows.items a b ≡ false)
