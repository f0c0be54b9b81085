use Rattle.wf_names_rules.specs.NameRules.{SizeBreaks}
use Rattle.wf_names_sizes.proofs.DecidingLaws.{alone-decides}
use Rattle.wf_names_sizes.proofs.laws.first_size_decides.Goals as goal

pub returns : goal.returns
returns c = λ d all b. alone-decides (SizeBreaks d) all b
