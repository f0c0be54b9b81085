use Rattle.wf_exprs.proofs.Prefixes.{a_name}
use Rattle.wf_lower.proofs.entries.missing.Goals as goal

pub spelt_variable-requires : goal.spelt_variable-requires
spelt_variable-requires c = a_name c.args.name.now c.requires
