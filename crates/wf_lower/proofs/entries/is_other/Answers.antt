use Rattle.std.proofs.Common.{◌∙◌}
use Rattle.c_text.specs.declared.kinds.COp.TheVariants.{Both, Ne}
use Rattle.wf_exprs.proofs.Growing.{grows_on, kept_expr, retell}
use Rattle.wf_lower.proofs.SharedLaws.{two_as}
use Rattle.wf_lower.proofs.entries.is_other.Goals as goal

pub returns-clause-grows : goal.returns-clause-grows
returns-clause-grows c = grows_on (grows_on c.number.ensures.grows c.two.ensures.grows) c.two-2.ensures.grows

pub two-requires-clause-first : goal.two-requires-clause-first
two-requires-clause-first c = c.number.ensures.grows.more_exprs _ c.requires.active.there

pub two-requires-2-clause-first : goal.two-requires-2-clause-first
two-requires-2-clause-first c = (grows_on c.number.ensures.grows c.two.ensures.grows).more_exprs _ c.requires.active.there

pub returns-clause-made : goal.returns-clause-made
returns-clause-made c =
    let first = c.number.ensures.grows in
    let active = (kept_expr _ _ first c.requires.active).is in
    let later = (kept_expr _ _ (grows_on first c.two.ensures.grows) c.requires.active).is in
    retell _ _ _ c.two-2.result (two_as Both later (c.in_ok-differs.ensures.made.is ∙ two_as Ne active c.in_ok-own.ensures.made.is)) c.two-2.ensures.made

pub returns-in_err-differs-clause-grows : goal.returns-in_err-differs-clause-grows
returns-in_err-differs-clause-grows c = grows_on c.number.ensures.grows c.two.ensures.grows
