use Rattle.wf_names_sizes.proofs.TakeLemmas.{take-one}
use Rattle.wf_names_sizes.proofs.laws.fields_take_one_number.Goals as goal

pub returns : goal.returns
returns c = take-one
