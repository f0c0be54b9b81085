use Rattle.std.proofs.Common.{refl}
use Rattle.wf_lower_stmts.proofs.HereLaws.{retell_code}
use Rattle.wf_lower.proofs.SharedLaws.{assign_as, member_target}
use Rattle.wf_lower.proofs.entries.disable.Goals as goal

pub assign-requires-clause-target : goal.assign-requires-clause-target
assign-requires-clause-target c = member_target _ _ _ c.requires.exprs.life

pub returns-clause-made : goal.returns-clause-made
returns-clause-made c = retell_code _ _ _ c.assign.result (assign_as c.requires.exprs.life.is c.requires.exprs.two.is refl) c.assign.ensures.made
