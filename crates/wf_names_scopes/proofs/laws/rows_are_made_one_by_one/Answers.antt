use Rattle.wf_names_scopes.proofs.CallRowLemmas.{front-none, front-more, front-all}
use Rattle.wf_names_scopes.proofs.laws.rows_are_made_one_by_one.Goals as goal

pub returns : goal.returns
returns c = record { none = front-none; more = front-more; all = front-all }
