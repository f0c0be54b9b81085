use Rattle.wf_exprs.proofs.Growing.{grows_on}
use Rattle.wf_exprs.proofs.Prefixes.{v_name}
use Rattle.wf_lower_stmts.proofs.keeping.save_local.Goals as goal

pub returns-clause-grows : goal.returns-clause-grows
returns-clause-grows c = grows_on (grows_on c.spelt_variable.ensures.grows c.saved_there.ensures.grows) c.assign.ensures.grows

pub spelt_variable-requires : goal.spelt_variable-requires
spelt_variable-requires c = v_name c.args.name.now c.requires.word
