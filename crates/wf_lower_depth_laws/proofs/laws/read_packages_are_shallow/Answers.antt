use Rattle.wf_lower_depth_laws.proofs.ReadTexts.{read_packages_are_within}
use Rattle.wf_lower_depth_laws.proofs.laws.read_packages_are_shallow.Goals as goal

pub returns : goal.returns
returns c = read_packages_are_within
