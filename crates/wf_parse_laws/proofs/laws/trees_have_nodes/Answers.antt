use Rattle.wf_parse_laws.proofs.Nodes.{package-of}
use Rattle.wf_parse_laws.proofs.laws.trees_have_nodes.Goals as goal

pub returns : goal.returns
returns c = package-of
