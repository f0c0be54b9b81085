use Rattle.std.proofs.Common.{◌≡◌, ◌+◌, ◌*◌, drop}
use Rattle.wf_lower_stmts.specs.BodyNodes.{is_sought, stands_at, stands_among, stands_in_arms}
use Rattle.wf_lower_stmts.proofs.walks.+standing.Given as goal

abbrev pub decreases-found_at : goal.decreases-found_at
decreases-found_at l = 4 * l.s.0 + 3

abbrev pub decreases-found_in_if : goal.decreases-found_in_if
decreases-found_in_if l = 4 * l.s.0 + 2

abbrev pub decreases-found_in_arms : goal.decreases-found_in_arms
decreases-found_in_arms l = 4 * l.s.0 + 1

abbrev pub decreases-found_in_else : goal.decreases-found_in_else
decreases-found_in_else l = 4 * l.s.0 + 1

abbrev pub decreases-found_in : goal.decreases-found_in
decreases-found_in l = 4 * l.s.0

-- What is looked for stands in what is left exactly where it stands in the whole.
abbrev pub invariant-found_in_arms-loop-arm : goal.invariant-found_in_arms-loop-arm
invariant-found_in_arms-loop-arm l = stands_in_arms (stands_at l.t (is_sought l.sought)) (drop l.arm-index l.arms) ≡ stands_in_arms (stands_at l.t (is_sought l.sought)) l.arms

abbrev pub invariant-found_in-loop-inner : goal.invariant-found_in-loop-inner
invariant-found_in-loop-inner l = stands_among (stands_at l.t (is_sought l.sought)) (drop l.inner-index l.inner-items) ≡ stands_among (stands_at l.t (is_sought l.sought)) l.inner-items
