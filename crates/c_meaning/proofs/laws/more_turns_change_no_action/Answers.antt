use Rattle.c_meaning.proofs.Raised.{init_same, call_same, same_answered, same_undefined}
use Rattle.c_meaning.proofs.laws.more_turns_change_no_action.Goals as goal

pub returns-clause-init : goal.returns-clause-init
returns-clause-init c = λ it memory after receiver n more answer e. same_answered _ _ (init_same it memory receiver n more) answer after e

pub returns-clause-undefined_init : goal.returns-clause-undefined_init
returns-clause-undefined_init c = λ it memory receiver n more e. same_undefined _ _ (init_same it memory receiver n more) e

pub returns-clause-call : goal.returns-clause-call
returns-clause-call c = λ it memory called host n more answer after e. same_answered _ _ (call_same it memory called host n more) answer after e

pub returns-clause-undefined_call : goal.returns-clause-undefined_call
returns-clause-undefined_call c = λ it memory called host n more e. same_undefined _ _ (call_same it memory called host n more) e
