use Rattle.std.proofs.Common.{ap}
use Rattle.wf_lower_stmts.proofs.HereLaws.{retell_code}
use Rattle.wf_lower.specs.Bodies.{disable}
use Rattle.wf_lower.proofs.entries.refuse_other.Goals as goal

pub returns-clause-made : goal.returns-clause-made
returns-clause-made c = retell_code _ _ _ c.disable.result (ap disable c.requires.refusals.interleaved.is) c.disable.ensures.made
