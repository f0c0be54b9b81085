use Rattle.wf_facts_exprs.proofs.Soundness.{range-holds}
use Rattle.wf_facts_exprs.proofs.laws.a_range_holds_the_value.Goals as goal

pub returns : goal.returns
returns k c s fs t n lawful well claims h e is = range-holds c s lawful fs well claims t h e n is
