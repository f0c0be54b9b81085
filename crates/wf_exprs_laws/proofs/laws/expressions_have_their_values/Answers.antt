use Rattle.wf_exprs_laws.proofs.Law.{expr_law}
use Rattle.wf_exprs_laws.proofs.laws.expressions_have_their_values.Goals as goal

pub returns : goal.returns
returns c = expr_law
