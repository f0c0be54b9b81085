use Rattle.wf_lower_laws.proofs.Markers.{loops_are_spelt}
use Rattle.wf_lower_laws.proofs.laws.labels_of_loops_are_spelt.Goals as goal

pub returns : goal.returns
returns c = loops_are_spelt
