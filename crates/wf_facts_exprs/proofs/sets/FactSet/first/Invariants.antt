use Rattle.std.proofs.Common.{◌≡◌, ◌≤◌, ◌<◌, ◌-◌, ℕ, false}
use Rattle.wf_facts_exprs.specs.Sets.{member}
use Rattle.wf_facts_exprs.proofs.sets.FactSet.first.Given as goal

abbrev pub invariant-loop-i : goal.invariant-loop-i
invariant-loop-i l = record {
  start : l.from ≤ l.i;
  before : (k : ℕ) → l.from ≤ k → k < l.i → member l.self.words k ≡ false;
}

abbrev pub decreases-loop-i : goal.decreases-loop-i
decreases-loop-i l = l.n - l.i
