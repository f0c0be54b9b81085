use Rattle.wf_facts_exprs.proofs.NumberedLemmas.{MovesSets}
use Rattle.wf_facts_exprs.proofs.numbered.move_each.Given as goal

abbrev pub invariant-loop-k : goal.invariant-loop-k
invariant-loop-k l = MovesSets l.dropped.words l.n l.fn.sets l.sets l.k
