use Rattle.wf_sound_runs.proofs.Runs.{never-stuck}
use Rattle.wf_sound_runs.proofs.laws.an_accepted_package_is_never_stuck.Goals as goal

pub returns : goal.returns
returns k local_at p receivers actions accepted declared may = never-stuck local_at p accepted receivers actions declared may
