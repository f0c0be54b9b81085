use Rattle.c_step_program.proofs.Coded.{program_coded, ranks_rise, inline_lengths_within}
use Rattle.c_step_program.proofs.laws.a_program_stands_in_its_code.Goals as goal

pub returns-clause-coded : goal.returns-clause-coded
returns-clause-coded c = λ p h. program_coded p h

pub returns-clause-ranked : goal.returns-clause-ranked
returns-clause-ranked c = λ p. ranks_rise p p.functions

pub returns-clause-values : goal.returns-clause-values
returns-clause-values c = λ p. inline_lengths_within p p.functions
