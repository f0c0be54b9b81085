use Rattle.wf_mean_laws.proofs.SeenRuns.{accepted-seen}
use Rattle.wf_mean_laws.proofs.laws.an_accepted_package_shows_its_source.Goals as goal

pub returns : goal.returns
returns c = accepted-seen
