use Rattle.wf_base.specs.HostRun.{empty_host}
use Rattle.c_meaning.proofs.Untouched.{host_stays, objects_stay, objects_stay_init}
use Rattle.c_meaning.proofs.laws.what_a_call_does_not_name_stays.Goals as goal

pub returns-clause-host : goal.returns-clause-host
returns-clause-host c = host_stays

pub returns-clause-call : goal.returns-clause-call
returns-clause-call c = λ inside it memory called host n answer after texts ready there e. objects_stay inside memory ready host it called n answer after texts there e

pub returns-clause-init : goal.returns-clause-init
returns-clause-init c = λ inside it memory after receiver n answer texts ready there e. objects_stay_init inside memory ready empty_host it receiver n answer after texts there e
