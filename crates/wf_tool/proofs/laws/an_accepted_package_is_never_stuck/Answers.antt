use Rattle.wf_tool.proofs.SoundVerdicts.{accepted-never-stuck}
use Rattle.wf_tool.proofs.laws.an_accepted_package_is_never_stuck.Goals as goal

pub returns : goal.returns
returns c = accepted-never-stuck
