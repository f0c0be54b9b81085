use Rattle.wf_typed_laws.proofs.TypedNames.{read_names_are_plain}
use Rattle.wf_typed_laws.proofs.laws.names_are_plain.Goals as goal

pub returns : goal.returns
returns c = read_names_are_plain
