use Rattle.std.proofs.Common.{◌∙◌, ap}
use Rattle.c_text.specs.CGrammar.{is_literal}
use Rattle.wf_exprs.proofs.Growing.{grows_on, retell}
use Rattle.wf_exprs.proofs.nodes.member.Goals as goal

pub put-requires : goal.put-requires
put-requires c = ((c.put_name.ensures.grows.more_exprs c.args.of.0 c.requires.of_there, ap is_literal (c.put_name.ensures.grows.exprs c.args.of.0 c.requires.of_there) ∙ c.requires.pointer), c.in_ok-field.ensures.made.there)

pub returns-clause-grows : goal.returns-clause-grows
returns-clause-grows c = grows_on c.put_name.ensures.grows c.put.ensures.grows

pub returns-clause-made : goal.returns-clause-made
returns-clause-made c = let x = c.put_name.ensures.grows.exprs c.args.of.0 c.requires.of_there in let y = c.in_ok-field.ensures.made.is in retell _ _ _ c.put.result (cc (x, y)) c.put.ensures.made
