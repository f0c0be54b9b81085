use Rattle.wf_typed_stmts.proofs.RightLaws.{body_is_right}
use Rattle.wf_typed_stmts.proofs.laws.bodies_that_break_no_rule_are_right.Goals as goal

pub returns : goal.returns
returns c p none named g i m e = body_is_right p none named g i m e
