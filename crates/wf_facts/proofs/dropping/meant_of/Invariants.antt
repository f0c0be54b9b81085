use Rattle.std.proofs.Common.{◌-◌}
use Rattle.wf_facts.specs.IndexedFacts.{mentioning}
use Rattle.wf_facts.proofs.DropLemmas.{Gathers}
use Rattle.wf_facts.proofs.dropping.meant_of.Given as goal

abbrev pub invariant-loop-i : goal.invariant-loop-i
invariant-loop-i l = Gathers (mentioning l.t l.x l.list) l.meant.words l.i

abbrev pub decreases-loop-i : goal.decreases-loop-i
decreases-loop-i l = l.n - l.i
