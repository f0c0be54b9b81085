use Rattle.wf_lower.proofs.SharedLaws.{kept_parts}
use Rattle.wf_exprs.proofs.Growing.{grows_on}
use Rattle.wf_lower.proofs.entries.entry_code.Goals as goal

pub table-requires-clause-parts : goal.table-requires-clause-parts
table-requires-clause-parts c = kept_parts _ _ c.call_body.ensures.grows c.requires.parts

pub returns-clause-grows : goal.returns-clause-grows
returns-clause-grows c = grows_on c.call_body.ensures.grows c.table.ensures.grows
