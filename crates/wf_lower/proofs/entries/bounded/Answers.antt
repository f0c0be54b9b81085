use Rattle.wf_exprs.proofs.Growing.{grows_on}
use Rattle.wf_exprs.proofs.Prefixes.{a_name}
use Rattle.wf_lower.proofs.entries.bounded.Goals as goal

pub returns-clause-grows : goal.returns-clause-grows
returns-clause-grows c = grows_on (grows_on c.spelt_variable.ensures.grows c.number.ensures.grows) c.two.ensures.grows

pub spelt_variable-requires : goal.spelt_variable-requires
spelt_variable-requires c = a_name c.args.name.now c.requires
