use Rattle.wf_lower_names.proofs.SpeltNodes.{nodes_are_spelt}
use Rattle.wf_lower_names.proofs.laws.nodes_are_spelt.Goals as goal

pub returns : goal.returns
returns c = nodes_are_spelt
