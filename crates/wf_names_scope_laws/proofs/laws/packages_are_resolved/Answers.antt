use Rattle.wf_names_scope_laws.proofs.Packages.{packages-are-resolved}
use Rattle.wf_names_scope_laws.proofs.laws.packages_are_resolved.Goals as goal

pub returns : goal.returns
returns c = packages-are-resolved
