use Rattle.wf_lower_laws.proofs.ExprKinds.{expressions_keep_kinds}
use Rattle.wf_lower_laws.proofs.laws.expressions_keep_their_kinds.Goals as goal

pub returns : goal.returns
returns c = expressions_keep_kinds
