use Rattle.wf_mean_laws.proofs.SeenPackages.{kept-seen}
use Rattle.wf_mean_laws.proofs.laws.a_package_that_keeps_the_rules_shows_its_source.Goals as goal

pub returns : goal.returns
returns c = kept-seen
