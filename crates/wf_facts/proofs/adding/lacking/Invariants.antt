use Rattle.std.proofs.Common.{◌≤◌, length, take, map, not}
use Rattle.wf_facts_exprs.specs.Knowledge.{told}
use Rattle.wf_facts_exprs.specs.Claims.{claim_in, claims_in, is_among}
use Rattle.wf_facts_exprs.specs.Sets.{IsSetOf}
use Rattle.wf_facts.proofs.adding.lacking.Given as goal

abbrev pub invariant-loop-i : goal.invariant-loop-i
invariant-loop-i l =
    (l.next ≤ length l.others.list.now) × IsSetOf l.lacking.words (map (λ f. not (is_among (claims_in l.t (told l.others)) (claim_in l.t f))) (take l.i l.list))
