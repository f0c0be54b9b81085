use Rattle.std.proofs.Common.{ap}
use Rattle.c_text.specs.CGrammar.{is_literal}
use Rattle.wf_exprs.proofs.Growing.{grows_on, retell}
use Rattle.wf_exprs.proofs.nodes.member_of_self.Goals as goal

pub put-requires : goal.put-requires
put-requires c = ((c.in_ok-of.ensures.made.there, ap is_literal c.in_ok-of.ensures.made.is), c.variable.ensures.grows.more_names c.args.field.0 c.requires)

pub returns-clause-grows : goal.returns-clause-grows
returns-clause-grows c = grows_on c.variable.ensures.grows c.put.ensures.grows

pub returns-clause-made : goal.returns-clause-made
returns-clause-made c = let x = c.variable.ensures.grows.names c.args.field.0 c.requires in let y = c.in_ok-of.ensures.made.is in retell _ _ _ c.put.result (cc (x, y)) c.put.ensures.made
