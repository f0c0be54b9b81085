use Rattle.wf_sound_laws.proofs.SoundPackages.{read-never-stuck}
use Rattle.wf_sound_laws.proofs.laws.a_read_package_that_keeps_the_rules_is_never_stuck.Goals as goal

pub returns : goal.returns
returns c = read-never-stuck
