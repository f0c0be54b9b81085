use Rattle.wf_exprs_laws.proofs.Law.{is_stored}
use Rattle.wf_exprs_laws.proofs.laws.numbers_are_stored_as_they_are.Goals as goal

pub returns : goal.returns
returns c = is_stored
