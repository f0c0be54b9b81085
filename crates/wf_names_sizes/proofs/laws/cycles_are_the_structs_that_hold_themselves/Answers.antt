use Rattle.wf_names_sizes.proofs.CycleLemmas.{cycles-hold}
use Rattle.wf_names_sizes.proofs.laws.cycles_are_the_structs_that_hold_themselves.Goals as goal

pub returns : goal.returns
returns c = cycles-hold
