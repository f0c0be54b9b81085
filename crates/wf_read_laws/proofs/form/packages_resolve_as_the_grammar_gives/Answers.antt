use Rattle.wf_read_laws.proofs.ReadPackages.{packages_resolve_by_grammar}
use Rattle.wf_read_laws.proofs.form.packages_resolve_as_the_grammar_gives.Goals as goal

pub returns : goal.returns
returns c = packages_resolve_by_grammar
