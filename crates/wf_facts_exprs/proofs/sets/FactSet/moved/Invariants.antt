use Rattle.std.proofs.Common.{◌≤◌, ◌-◌}
use Rattle.wf_facts_exprs.proofs.SetLemmas.{HasMoved}
use Rattle.wf_facts_exprs.proofs.sets.FactSet.moved.Given as goal

abbrev pub invariant-loop-from : goal.invariant-loop-from
invariant-loop-from l = (l.from ≤ l.n) × HasMoved l.dropped.words l.self.words l.moved.words l.from

abbrev pub decreases-loop-from : goal.decreases-loop-from
decreases-loop-from l = l.n - l.from
