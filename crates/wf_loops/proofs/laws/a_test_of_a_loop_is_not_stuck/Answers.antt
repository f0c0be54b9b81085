use Rattle.wf_loops.proofs.LawLemmas.{tested}
use Rattle.wf_loops.proofs.laws.a_test_of_a_loop_is_not_stuck.Goals as goal

pub returns : goal.returns
returns k c s at head lawful well all h = tested c s lawful head well at all h
