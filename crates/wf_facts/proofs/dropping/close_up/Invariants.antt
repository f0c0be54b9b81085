use Rattle.wf_facts.proofs.DropLemmas.{Closes}
use Rattle.wf_facts.proofs.dropping.close_up.Given as goal

abbrev pub invariant-loop-i : goal.invariant-loop-i
invariant-loop-i l = Closes l.dropped.words l.fn.list l.list l.stay l.i
