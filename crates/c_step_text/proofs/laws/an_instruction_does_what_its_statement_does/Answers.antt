use Rattle.c_step_text.proofs.Doings.{doing}
use Rattle.c_step_text.proofs.laws.an_instruction_does_what_its_statement_does.Goals as goal

pub returns : goal.returns
returns c = λ t a number code k inside. doing t a number code k inside
