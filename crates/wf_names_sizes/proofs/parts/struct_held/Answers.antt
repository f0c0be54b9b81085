use Rattle.wf_names_sizes.proofs.PartLemmas.{deep_held}
use Rattle.wf_names_sizes.proofs.parts.struct_held.Goals as goal
use Rattle.wf_names_rules.specs.Declarations.{declared_in}

pub returns-in_default : goal.returns-in_default
returns-in_default c = λ es. deep_held (declared_in c.args.parsed.now) es c.args.of.now.prefixes _ (rw c.as_slice.ensures at c.in_default.len_at_least)
