use Rattle.wf_typed_laws.proofs.NodeNames.{nodes_have_names}
use Rattle.wf_typed_laws.proofs.laws.nodes_have_names.Goals as goal

pub returns : goal.returns
returns c = nodes_have_names
