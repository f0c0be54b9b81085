use Rattle.wf_mean_laws.proofs.SeenPackages.{nodes-seen}
use Rattle.wf_mean_laws.proofs.laws.typed_nodes_show_their_source.Goals as goal

pub returns : goal.returns
returns c = nodes-seen
