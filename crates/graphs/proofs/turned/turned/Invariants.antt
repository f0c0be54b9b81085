use Rattle.std.proofs.Common.{◌≡◌, ◌&&◌, ℕ, length, nat_lt}
use Rattle.graphs.specs.Graphs.{goes}
use Rattle.graphs.proofs.turned.turned.Given as goal

abbrev pub invariant-loop-a : goal.invariant-loop-a
invariant-loop-a l = (length l.turned.items ≡ length l.rows) × ((a b : ℕ) → goes l.turned.items b a ≡ (nat_lt a l.a && goes l.rows a b))
