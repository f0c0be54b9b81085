use Rattle.wf_exprs.proofs.Growing.{grows_on, kept_expr}
use Rattle.wf_lower_stmts.proofs.HereLaws.{retell_code}
use Rattle.wf_lower.proofs.SharedLaws.{assign_as, member_target}
use Rattle.wf_lower.proofs.entries.set_active.Goals as goal

pub returns-clause-grows : goal.returns-clause-grows
returns-clause-grows c = grows_on c.number.ensures.grows c.assign.ensures.grows

pub assign-requires-clause-target : goal.assign-requires-clause-target
assign-requires-clause-target c = member_target _ _ _ (kept_expr _ _ c.number.ensures.grows c.requires.exprs.active)

pub returns-clause-made : goal.returns-clause-made
returns-clause-made c =
    let active = (kept_expr _ _ c.number.ensures.grows c.requires.exprs.active).is in
    let rest = c.number.ensures.grows.stmts c.args.rest.0 c.requires.rest in
    retell_code _ _ _ c.assign.result (assign_as active c.in_ok-n.ensures.made.is rest) c.assign.ensures.made
