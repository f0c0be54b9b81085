use Rattle.wf_meaning.specs.Laws.{Anything}
use Rattle.wf_meaning.proofs.Unnamed.{any_place, call_fine, init_settled, fresh_settled}
use Rattle.wf_meaning.proofs.laws.a_call_changes_only_what_it_names.Goals as goal

pub returns-clause-changes : goal.returns-clause-changes
returns-clause-changes c p state call h n a after settled e = (call_fine Anything p (λ m x known B A h0. any_place B A h0 m x.body) state call h settled n a after e).0

pub returns-clause-first : goal.returns-clause-first
returns-clause-first c p receivers = fresh_settled Anything p receivers

pub returns-clause-init : goal.returns-clause-init
returns-clause-init c p state r turns a after h e = init_settled Anything p state r turns a after h e

pub returns-clause-call : goal.returns-clause-call
returns-clause-call c p state call h n a after settled e = (call_fine Anything p (λ m x known B A h0. any_place B A h0 m x.body) state call h settled n a after e).1
