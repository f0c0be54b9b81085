use Rattle.c_step_text.proofs.Emits.{emitted, as_long, emitted_function}
use Rattle.c_step_text.proofs.laws.an_emitted_text_is_laid_out.Goals as goal

pub returns-clause-laid : goal.returns-clause-laid
returns-clause-laid c = λ t names i next e m code s x a. emitted t names i next e m code s x a

pub returns-clause-length : goal.returns-clause-length
returns-clause-length c = λ names i next e m code. as_long names code i next e m

pub returns-clause-function : goal.returns-clause-function
returns-clause-function c = λ t a e m s x arms. emitted_function t a e m s x arms
