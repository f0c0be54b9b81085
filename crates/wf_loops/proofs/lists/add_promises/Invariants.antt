use Rattle.std.proofs.Common.{◌≡◌, ◌≤◌, length, drop}
use Rattle.wf_facts_exprs.specs.Claims.{claims_in}
use Rattle.wf_facts.specs.IndexedFacts.{IsOver}
use Rattle.wf_loops.specs.LoopRules.{with_promises}
use Rattle.wf_loops.specs.LoopNodes.{promises_in}
use Rattle.wf_loops.proofs.lists.add_promises.Given as goal

-- With the promises that are left the list becomes what it would with all.
abbrev pub invariant-loop-i : goal.invariant-loop-i
invariant-loop-i l =
    IsOver l.t l.facts × (length l.facts.list ≤ 512)
    × (with_promises l.moment (claims_in l.t l.facts.list) (promises_in l.t (drop l.i l.clauses)) ≡ with_promises l.moment (claims_in l.t l.fn.facts.list) (promises_in l.t l.clauses))
