use Rattle.wf_exprs_laws.proofs.Saturating.{helper_law}
use Rattle.wf_exprs_laws.proofs.laws.helpers_do_as_they_say.Goals as goal

pub returns : goal.returns
returns c = helper_law
