use Rattle.wf_lower.proofs.SharedLaws.{kept_parts}
use Rattle.wf_exprs.proofs.Growing.{grows_on}
use Rattle.wf_lower.proofs.entries.after_body.Goals as goal

pub settle_if_coroutine-requires-clause-parts : goal.settle_if_coroutine-requires-clause-parts
settle_if_coroutine-requires-clause-parts c = kept_parts _ _ c.answered.ensures.grows c.requires.parts

pub returns-clause-grows : goal.returns-clause-grows
returns-clause-grows c = grows_on c.answered.ensures.grows c.settle_if_coroutine.ensures.grows
