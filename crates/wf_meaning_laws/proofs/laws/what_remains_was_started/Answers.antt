use Rattle.wf_meaning_laws.proofs.Started.{fresh-started, init-started, call-started}
use Rattle.wf_meaning_laws.proofs.laws.what_remains_was_started.Goals as goal

pub returns-clause-first : goal.returns-clause-first
returns-clause-first c p receivers = fresh-started p receivers

pub returns-clause-init : goal.returns-clause-init
returns-clause-init c p state r turns a after h e = init-started p state r turns a after h e

pub returns-clause-call : goal.returns-clause-call
returns-clause-call c p state call h n a after started e = call-started p state call h n a after started e
