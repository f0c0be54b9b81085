use Rattle.wf_lower_stmts.proofs.Labels.{points_agree}
use Rattle.wf_lower_stmts.proofs.laws.points_agree.Goals as goal

pub returns : goal.returns
returns c = points_agree
