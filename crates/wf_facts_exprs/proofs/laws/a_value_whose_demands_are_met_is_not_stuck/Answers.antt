use Rattle.wf_facts_exprs.proofs.Soundness.{value-sound}
use Rattle.wf_facts_exprs.proofs.laws.a_value_whose_demands_are_met_is_not_stuck.Goals as goal

pub returns : goal.returns
returns k c s fs t lawful well claims h e = value-sound c s lawful fs well claims t h e
