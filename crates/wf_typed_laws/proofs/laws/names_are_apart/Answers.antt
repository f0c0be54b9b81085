use Rattle.wf_typed_laws.proofs.ApartNames.{read_names_are_apart}
use Rattle.wf_typed_laws.proofs.laws.names_are_apart.Goals as goal

pub returns : goal.returns
returns c = read_names_are_apart
