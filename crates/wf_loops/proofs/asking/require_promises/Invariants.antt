use Rattle.std.proofs.Common.{◌≡◌, ◌≤◌, drop}
use Rattle.wf_facts_exprs.specs.Knowledge.{told}
use Rattle.wf_facts_exprs.specs.Claims.{claims_in}
use Rattle.wf_loops.specs.LoopRules.{promises_refusal}
use Rattle.wf_loops.specs.LoopNodes.{promises_in}
use Rattle.wf_loops.proofs.asking.require_promises.Given as goal

-- The promises so far are met, so those that are left decide; and no more facts than promises have been passed.
abbrev pub invariant-loop-i : goal.invariant-loop-i
invariant-loop-i l = record {
  left : promises_refusal l.moment (claims_in l.t (told l.facts)) l.at (promises_in l.t (drop l.i l.clauses)) ≡ promises_refusal l.moment (claims_in l.t (told l.facts)) l.at (promises_in l.t l.clauses);
  few : l.next ≤ l.i;
}
