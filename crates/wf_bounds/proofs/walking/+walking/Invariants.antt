use Rattle.std.proofs.Common.{◌≡◌, ◌+◌, ◌*◌, true, None, drop}
use Rattle.wf_facts_exprs.specs.Claims.{claims_in}
use Rattle.wf_facts.specs.IndexedFacts.{IsOver}
use Rattle.wf_bounds.specs.WalkAnswers.{arms_fit, known_of, MayBeOver}
use Rattle.wf_bounds.specs.WalkNodes.{walked_at, walked_listed, walked_arms}
use Rattle.wf_bounds.proofs.walking.+walking.Given as goal

abbrev pub decreases-walk_stmt : goal.decreases-walk_stmt
decreases-walk_stmt l = 5 * l.s.0 + 4

abbrev pub decreases-walk_if : goal.decreases-walk_if
decreases-walk_if l = 5 * l.s.0 + 3

abbrev pub decreases-walk_arms : goal.decreases-walk_arms
decreases-walk_arms l = 5 * l.s.0 + 2

abbrev pub decreases-walk_arm : goal.decreases-walk_arm
decreases-walk_arm l = 5 * l.s.0 + 1

abbrev pub decreases-walk_else : goal.decreases-walk_else
decreases-walk_else l = 5 * l.s.0 + 1

abbrev pub decreases-walk_loop : goal.decreases-walk_loop
decreases-walk_loop l = 5 * l.w.0 + 1

abbrev pub decreases-walk_block : goal.decreases-walk_block
decreases-walk_block l = 5 * l.above

-- With the statements that are left the walk comes to what it does with all.
abbrev pub invariant-walk_block-loop-s : goal.invariant-walk_block-loop-s
invariant-walk_block-loop-s l =
    IsOver l.walk.t.now l.facts
    × (walked_listed (walked_at l.walk.t.now l.walk.m.0 l.walk.sought) (claims_in l.walk.t.now l.facts.list) (drop l.s-index l.s-items) ≡ walked_listed (walked_at l.walk.t.now l.walk.m.0 l.walk.sought) (claims_in l.walk.t.now l.fn.facts.list) l.s-items)

-- So it does with the arms that are left, whose lists keep to the limit.
abbrev pub invariant-walk_arms-loop-arm : goal.invariant-walk_arms-loop-arm
invariant-walk_arms-loop-arm l =
    IsOver l.walk.t.now l.facts × MayBeOver l.walk.t.now l.met × (arms_fit l.walk.t.now (claims_in l.walk.t.now l.facts.list) (drop l.arm-index l.arms) ≡ true)
    × (walked_arms l.walk.t.now (walked_at l.walk.t.now l.walk.m.0 l.walk.sought) (known_of l.walk.t.now l.met) (claims_in l.walk.t.now l.facts.list) (drop l.arm-index l.arms) l.otherwise ≡ walked_arms l.walk.t.now (walked_at l.walk.t.now l.walk.m.0 l.walk.sought) None (claims_in l.walk.t.now l.fn.facts.list) l.arms l.otherwise)
