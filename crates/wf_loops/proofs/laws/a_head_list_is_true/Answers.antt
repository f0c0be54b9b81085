use Rattle.wf_loops.proofs.LawLemmas.{entered}
use Rattle.wf_loops.proofs.laws.a_head_list_is_true.Goals as goal

pub returns-clause-entry : goal.returns-clause-entry
returns-clause-entry k c s fs at head lawful claims well all h = entered c s lawful head well fs at claims all h

pub returns-clause-way_back : goal.returns-clause-way_back
returns-clause-way_back k c s fs at head lawful claims well all h = entered c s lawful head well fs at claims all h
