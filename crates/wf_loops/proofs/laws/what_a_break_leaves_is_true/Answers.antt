use Rattle.wf_loops.proofs.LawLemmas.{broken}
use Rattle.wf_loops.proofs.laws.what_a_break_leaves_is_true.Goals as goal

pub returns : goal.returns
returns k c s fs at head lawful claims well all h left = broken c s lawful head well fs at claims all h left
