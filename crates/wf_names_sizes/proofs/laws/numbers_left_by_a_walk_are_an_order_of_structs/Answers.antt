use Rattle.wf_names_sizes.proofs.CycleLemmas.{order-holds}
use Rattle.wf_names_sizes.proofs.laws.numbers_left_by_a_walk_are_an_order_of_structs.Goals as goal

pub returns : goal.returns
returns c = order-holds
