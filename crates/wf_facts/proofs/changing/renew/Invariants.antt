use Rattle.wf_facts.proofs.ChangeLemmas.{Renews}
use Rattle.wf_facts.proofs.changing.renew.Given as goal

abbrev pub invariant-loop-i : goal.invariant-loop-i
invariant-loop-i l = Renews l.t l.change l.meant.words l.dropped.words l.fn.list l.list l.i
