use Rattle.wf_facts_exprs.proofs.SetLemmas.{empty_set}
use Rattle.wf_facts_exprs.proofs.sets.FactSet.new.Goals as goal

pub returns-clause-none : goal.returns-clause-none
returns-clause-none c = empty_set
