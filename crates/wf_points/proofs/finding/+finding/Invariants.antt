use Rattle.std.proofs.Common.{◌≡◌, ◌+◌, ◌*◌, ◌++◌, drop, map}
use Rattle.wf_points.specs.FoundPoints.{found_at, points_at, points_listed, points_of_arms}
use Rattle.wf_points.proofs.finding.+finding.Given as goal

abbrev pub decreases-add_points : goal.decreases-add_points
decreases-add_points l = 4 * l.s.0 + 3

abbrev pub decreases-add_from_if : goal.decreases-add_from_if
decreases-add_from_if l = 4 * l.s.0 + 2

abbrev pub decreases-add_from_arms : goal.decreases-add_from_arms
decreases-add_from_arms l = 4 * l.s.0 + 1

abbrev pub decreases-add_from_block : goal.decreases-add_from_block
decreases-add_from_block l = 4 * l.s.0

-- With what is left, what was found is what is to be found.
abbrev pub invariant-add_from_arms-loop-arm : goal.invariant-add_from_arms-loop-arm
invariant-add_from_arms-loop-arm l =
    l.found ++ map found_at (points_of_arms (points_at l.t) (drop l.arm-index l.arms)) ≡ l.fn.found ++ map found_at (points_of_arms (points_at l.t) l.arms)

abbrev pub invariant-add_from_block-loop-inner : goal.invariant-add_from_block-loop-inner
invariant-add_from_block-loop-inner l =
    l.found ++ map found_at (points_listed (points_at l.t) (drop l.inner-index l.inner-items)) ≡ l.fn.found ++ map found_at (points_listed (points_at l.t) l.inner-items)
