use Rattle.wf_names_sizes.proofs.LongLaws.{array-breaks, arrays-decide}
use Rattle.wf_names_sizes.proofs.laws.first_long_array_decides.Goals as goal

pub returns : goal.returns
returns c = record { breaks = array-breaks; decides = arrays-decide }
