use Rattle.wf_facts_exprs.proofs.NumberedLemmas.{MovesSets}
use Rattle.wf_facts_exprs.proofs.numbered.close_up.Given as goal

abbrev pub invariant-loop-k : goal.invariant-loop-k
invariant-loop-k l = MovesSets l.dropped.words l.n l.fn.sets l.sets l.k
