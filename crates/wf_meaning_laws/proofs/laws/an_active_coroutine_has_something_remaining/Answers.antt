use Rattle.std.proofs.Common.{Some}
use Rattle.wf_ast.specs.TypedPackage.{package_of}
use Rattle.wf_meaning.proofs.Lists2.{all_at}
use Rattle.wf_meaning_laws.specs.Active.{IsSteadyReceiver}
use Rattle.wf_meaning_laws.proofs.ActiveCalls.{call-steady}
use Rattle.wf_meaning_laws.proofs.ActiveStates.{fresh-steady, init-steady, code-typed}
use Rattle.wf_meaning_laws.proofs.laws.an_active_coroutine_has_something_remaining.Goals as goal

pub returns-clause-remains : goal.returns-clause-remains
returns-clause-remains c p state r number k objects o h e there is = ((all_at (IsSteadyReceiver p) state r (Some objects) h e).by number o there).active k is

pub returns-clause-first : goal.returns-clause-first
returns-clause-first c p receivers = fresh-steady p receivers

pub returns-clause-init : goal.returns-clause-init
returns-clause-init c p state r turns a after h e = init-steady p state r turns a after h e

pub returns-clause-call : goal.returns-clause-call
returns-clause-call c nodes state call h n a after typed steady e = call-steady (package_of nodes) (code-typed nodes typed) state call h n a after steady e
