use Rattle.c_step_calls.proofs.Results.{value_is}
use Rattle.c_step_calls.proofs.laws.a_value_is_of_its_type.Goals as goal

pub returns : goal.returns
returns c = λ p name n left values memory done e. value_is p name n left values memory done e
