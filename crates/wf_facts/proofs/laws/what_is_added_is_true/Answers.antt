use Rattle.wf_facts.proofs.LawLemmas.{added-true, with_condition-true}
use Rattle.wf_facts.proofs.laws.what_is_added_is_true.Goals as goal

pub returns-clause-fact : goal.returns-clause-fact
returns-clause-fact c s fs f h k = added-true s fs f h k

pub returns-clause-condition : goal.returns-clause-condition
returns-clause-condition c s fs cond answer h k = with_condition-true s fs cond answer h k
