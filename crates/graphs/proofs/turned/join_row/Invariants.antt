use Rattle.std.proofs.Common.{◌≡◌, ◌||◌, ◌&&◌, ℕ, length, take, nat_eq}
use Rattle.graphs.specs.Graphs.{holds, goes}
use Rattle.graphs.proofs.turned.join_row.Given as goal

abbrev pub invariant-loop-b : goal.invariant-loop-b
invariant-loop-b l =
    (length l.rows.items ≡ length l.fn.rows.items)
    × ((b c : ℕ) → goes l.rows.items b c ≡ (goes l.fn.rows.items b c || (holds (take l.b-index l.row) b && nat_eq c l.a)))
