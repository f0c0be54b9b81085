use Rattle.wf_sound_laws.proofs.SoundPackages.{nodes-accepted}
use Rattle.wf_sound_laws.proofs.laws.typed_nodes_without_a_refusal_are_accepted.Goals as goal

pub returns : goal.returns
returns c = nodes-accepted
