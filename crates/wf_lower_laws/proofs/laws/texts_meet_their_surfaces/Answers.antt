use Rattle.wf_lower_laws.proofs.Surfaces.{texts_meet_surfaces}
use Rattle.wf_lower_laws.proofs.laws.texts_meet_their_surfaces.Goals as goal

pub returns : goal.returns
returns c = texts_meet_surfaces
