use Rattle.std.proofs.Common.{◌≡◌}
use Rattle.wf_facts_exprs.specs.Claims.{claims_in}
use Rattle.wf_facts.specs.IndexedFacts.{IsOver}
use Rattle.wf_bounds.specs.MethodWalks.{zeros_before}
use Rattle.wf_bounds.proofs.starting.start.Given as goal

-- The locals so far are known to be 0.
abbrev pub invariant-loop-x : goal.invariant-loop-x
invariant-loop-x l = IsOver l.t l.facts × (claims_in l.t l.facts.list ≡ zeros_before l.t l.m.0 l.x)
