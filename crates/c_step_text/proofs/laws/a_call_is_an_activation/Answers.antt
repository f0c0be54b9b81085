use Rattle.c_step_text.proofs.Numbers.{numbered, begins}
use Rattle.c_step_text.proofs.laws.a_call_is_an_activation.Goals as goal

pub returns-clause-numbered : goal.returns-clause-numbered
returns-clause-numbered c = λ p f front callable frame start e h. numbered p f front callable frame start e h

pub returns-clause-begins : goal.returns-clause-begins
returns-clause-begins c = λ t a laid numbered_so. begins t a laid numbered_so
