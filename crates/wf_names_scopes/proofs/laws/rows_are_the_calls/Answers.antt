use Rattle.wf_names_scopes.proofs.CallRowLemmas.{row-is}
use Rattle.wf_names_scopes.proofs.laws.rows_are_the_calls.Goals as goal

pub returns : goal.returns
returns c = row-is
