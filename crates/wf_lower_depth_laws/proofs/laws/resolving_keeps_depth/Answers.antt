use Rattle.wf_lower_depth_laws.proofs.ResolvedDepth.{resolving_keeps_depth}
use Rattle.wf_lower_depth_laws.proofs.laws.resolving_keeps_depth.Goals as goal

pub returns : goal.returns
returns c = resolving_keeps_depth
