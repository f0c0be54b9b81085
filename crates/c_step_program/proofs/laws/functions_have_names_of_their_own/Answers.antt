use Rattle.c_step_program.proofs.Apart.{functions_apart}
use Rattle.c_step_program.proofs.laws.functions_have_names_of_their_own.Goals as goal

pub returns : goal.returns
returns c = λ surface items h. functions_apart surface items h
