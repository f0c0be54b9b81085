use Rattle.wf_typed_exprs.proofs.AroundLaws.{body_is_right}
use Rattle.wf_typed_exprs.proofs.laws.what_stands_round_a_body_is_right.Goals as goal

pub returns : goal.returns
returns c p none named i m e = body_is_right p none named i m e
