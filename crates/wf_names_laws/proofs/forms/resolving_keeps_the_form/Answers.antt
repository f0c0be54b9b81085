use Rattle.wf_names_laws.proofs.forms.resolving_keeps_the_form.Goals as goal
use Rattle.wf_names_laws.proofs.PackageKept.{resolving_keeps_form}

pub returns : goal.returns
returns c = resolving_keeps_form
