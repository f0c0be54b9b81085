use Rattle.c_step_laws.proofs.ChainLaws.{cells_of_chains}
use Rattle.c_step_laws.proofs.laws.cells_are_those_of_the_greatest_chain.Goals as goal

pub returns : goal.returns
returns c = cells_of_chains
