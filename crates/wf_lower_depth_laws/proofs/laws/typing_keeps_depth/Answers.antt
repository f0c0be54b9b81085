use Rattle.wf_lower_depth_laws.proofs.TypedDepth.{typing_keeps_depth}
use Rattle.wf_lower_depth_laws.proofs.laws.typing_keeps_depth.Goals as goal

pub returns : goal.returns
returns c = typing_keeps_depth
