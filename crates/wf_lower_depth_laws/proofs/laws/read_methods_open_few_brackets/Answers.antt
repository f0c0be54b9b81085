use Rattle.wf_lower_depth_laws.proofs.ReadDepth.{read_methods_open_few}
use Rattle.wf_lower_depth_laws.proofs.laws.read_methods_open_few_brackets.Goals as goal

pub returns : goal.returns
returns c = read_methods_open_few
