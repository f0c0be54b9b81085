use Rattle.std.proofs.Common.{refl}
use Rattle.wf_lower_stmts.proofs.HereLaws.{retell_code}
use Rattle.wf_lower.proofs.EntryLaws.{when_as}
use Rattle.wf_lower.proofs.entries.refuse_disabled.Goals as goal

pub returns-clause-made : goal.returns-clause-made
returns-clause-made c = retell_code _ _ _ c.when.result (when_as c.requires.parts.exprs.disabled.is c.requires.parts.refusals.was_disabled.is refl) c.when.ensures.made
