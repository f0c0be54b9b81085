use Rattle.std.proofs.Common.{◌≡◌, ◌+◌, ℕ, drop}
use Rattle.wf_points.specs.PointNumbers.{number_at, earlier}
use Rattle.wf_points.specs.FoundPoints.{numbered_from}
use Rattle.wf_points.proofs.numbering.number_points.Given as goal

-- With those of the points that are left, the numbers are those of all points.
abbrev pub invariant-loop-i : goal.invariant-loop-i
invariant-loop-i l =
    (s : ℕ) → earlier (number_at l.numbers.items s) (numbered_from (l.i + 1) (drop l.i l.points) s) ≡ earlier (number_at l.fn.numbers.items s) (numbered_from 1 l.points s)
