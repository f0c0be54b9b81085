use Rattle.wf_names_scope_laws.proofs.Packages.{read-packages-are-resolved}
use Rattle.wf_names_scope_laws.proofs.laws.read_packages_are_resolved.Goals as goal

pub returns : goal.returns
returns c = read-packages-are-resolved
