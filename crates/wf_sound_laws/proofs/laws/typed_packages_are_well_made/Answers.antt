use Rattle.wf_sound_laws.proofs.ShortArrays.{arrays-short}
use Rattle.wf_sound_laws.proofs.SoundPackages.{typed-made}
use Rattle.wf_sound_laws.proofs.laws.typed_packages_are_well_made.Goals as goal

pub returns : goal.returns
returns c = record { made = typed-made; short = arrays-short }
