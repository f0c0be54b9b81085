use Rattle.c_step_calls.proofs.Answering.{call_fits, init_fits}
use Rattle.c_step_calls.proofs.laws.an_answer_is_of_its_kind.Goals as goal

pub returns-clause-call : goal.returns-clause-call
returns-clause-call c = λ items it form is ok. call_fits items it form is ok

pub returns-clause-init : goal.returns-clause-init
returns-clause-init c = λ items it form is ok. init_fits items it form is ok
