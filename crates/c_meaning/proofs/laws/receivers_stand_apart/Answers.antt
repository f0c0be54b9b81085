use Rattle.c_meaning.specs.CRun.{most_args}
use Rattle.c_meaning.proofs.HostTyped.{call_memory_typed}
use Rattle.c_meaning.proofs.ApartCalls.{init_apart, call_apart}
use Rattle.c_meaning.proofs.ApartFirst.{first_apart}
use Rattle.c_meaning.proofs.laws.receivers_stand_apart.Goals as goal

pub returns-clause-first : goal.returns-clause-first
returns-clause-first c = first_apart

pub returns-clause-init : goal.returns-clause-init
returns-clause-init c = λ p surface receivers memory after receiver n answer stand e. init_apart p surface receivers memory stand receiver n answer after e

pub returns-clause-call : goal.returns-clause-call
returns-clause-call c = λ p surface receivers memory called host n answer after stand buffers arrays e.
    call_apart p surface receivers memory stand called host n answer after (call_memory_typed host buffers arrays memory (most_args surface.structs) called.args stand.typed) e
