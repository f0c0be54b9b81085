use Rattle.std.proofs.Common.{◌≡◌, true, drop}
use Rattle.wf_facts_exprs.specs.Claims.{claims_in}
use Rattle.wf_facts.specs.IndexedFacts.{IsOver}
use Rattle.wf_bounds_stmts.specs.Passing.{site_at}
use Rattle.wf_bounds.specs.WalkNodes.{conditions_of}
use Rattle.wf_bounds.proofs.ComingLemmas.{arms_left}
use Rattle.wf_bounds.proofs.branching.check_arms.Given as goal

-- With the arms that are left the refusal is that of all: `room` tells whether the lists before the blocks so far keep to the limit.
abbrev pub invariant-loop-arm : goal.invariant-loop-arm
invariant-loop-arm l =
    IsOver l.walk.t.now l.known
    × (arms_left l.room (site_at l.walk.t.now l.fn.s) (claims_in l.walk.t.now l.known.list) (conditions_of l.walk.t.now (drop l.arm-index l.arms)) ≡ arms_left true (site_at l.walk.t.now l.fn.s) (claims_in l.walk.t.now l.fn.facts.list) (conditions_of l.walk.t.now l.arms))
