use Rattle.wf_read_laws.proofs.PackageResolved.{resolving_keeps_places}
use Rattle.wf_read_laws.proofs.type_places.resolving_keeps_places.Goals as goal

pub returns : goal.returns
returns c = resolving_keeps_places
