use Rattle.std.proofs.Common.{◌≡◌, ◌++◌, drop, map}
use Rattle.wf_points.specs.FoundPoints.{found_at, points_at, points_listed}
use Rattle.wf_points.proofs.finding.find_points.Given as goal

-- With what is left, what was found is what is to be found.
abbrev pub invariant-loop-s : goal.invariant-loop-s
invariant-loop-s l = l.found ++ map found_at (points_listed (points_at l.t) (drop l.s-index l.s-items)) ≡ map found_at (points_listed (points_at l.t) l.s-items)
