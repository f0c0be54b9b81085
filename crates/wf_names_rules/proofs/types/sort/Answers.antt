use Rattle.wf_names_rules.specs.Declarations.{bytes_of}
use Rattle.wf_names_rules.proofs.TypeLemmas.{deep_sort}
use Rattle.wf_names_rules.proofs.types.sort.Goals as goal

pub returns-in_default : goal.returns-in_default
returns-in_default c = λ es. deep_sort (bytes_of c.args.parsed.now.texts) es c.args.of.now.prefixes _ (rw c.as_slice.ensures at c.in_default.len_at_least)
