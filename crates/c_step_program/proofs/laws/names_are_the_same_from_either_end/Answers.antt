use Rattle.c_step_program.proofs.Scopes.{program_type, program_held}
use Rattle.c_step_program.proofs.laws.names_are_the_same_from_either_end.Goals as goal

pub returns-clause-types : goal.returns-clause-types
returns-clause-types c = λ surface items f h e. program_type surface items f h e

pub returns-clause-lvalues : goal.returns-clause-lvalues
returns-clause-lvalues c = λ surface items f h e. program_held surface items f h e
