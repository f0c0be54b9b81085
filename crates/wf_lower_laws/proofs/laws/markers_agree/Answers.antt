use Rattle.wf_lower_laws.proofs.Markers.{loops_are_marked}
use Rattle.wf_lower_laws.proofs.laws.markers_agree.Goals as goal

pub returns : goal.returns
returns c = loops_are_marked
