use Rattle.std.proofs.Common.{◌≡◌, ◌+◌, ◌-◌, ℕ, vec_len}
use Rattle.wf_points.specs.PointNumbers.{number_at}
use Rattle.wf_points.proofs.numbering.make_room.Given as goal

abbrev pub decreases-loop-numbers : goal.decreases-loop-numbers
decreases-loop-numbers l = l.s + 1 - vec_len l.numbers

-- No number changes.
abbrev pub invariant-loop-numbers : goal.invariant-loop-numbers
invariant-loop-numbers l = (k : ℕ) → number_at l.numbers.items k ≡ number_at l.fn.numbers.items k
