use Rattle.std.proofs.Common.{◌≡◌, ◌+◌, ◌*◌, drop}
use Rattle.wf_facts_exprs.specs.Knowledge.{told}
use Rattle.wf_facts_exprs.specs.Claims.{claims_in}
use Rattle.wf_facts_exprs.specs.Operands.{conds_refusal}
use Rattle.wf_facts_exprs.proofs.conditions.+conditions.Given as goal

abbrev pub decreases-check_condition : goal.decreases-check_condition
decreases-check_condition l = 4 * l.e.0 + 3

abbrev pub decreases-check_chain : goal.decreases-check_chain
decreases-check_chain l = 4 * l.e.0 + 2

abbrev pub decreases-check_all : goal.decreases-check_all
decreases-check_all l = 4 * l.e.0 + 1

-- The parts so far demand nothing that isn't met.
abbrev pub invariant-check_all-loop-i : goal.invariant-check_all-loop-i
invariant-check_all-loop-i l = conds_refusal (claims_in l.t (told l.facts)) l.t (drop l.i l.parts) ≡ conds_refusal (claims_in l.t (told l.facts)) l.t l.parts
