use Rattle.c_meaning.proofs.ReachSteps.{function_keeps}
use Rattle.c_meaning.proofs.laws.what_a_function_cannot_reach_stays.Goals as goal

pub returns : goal.returns
returns c = function_keeps
