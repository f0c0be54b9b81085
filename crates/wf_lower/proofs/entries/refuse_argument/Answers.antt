use Rattle.std.proofs.Common.{ap}
use Rattle.wf_lower_stmts.proofs.HereLaws.{retell_code}
use Rattle.wf_lower.specs.Bodies.{disable_if_marked}
use Rattle.wf_lower.proofs.entries.refuse_argument.Goals as goal

pub returns-clause-made : goal.returns-clause-made
returns-clause-made c = retell_code _ _ _ c.disable_if_marked.result (ap (disable_if_marked c.args.e.now.method.mark) c.requires.refusals.bad_argument.is) c.disable_if_marked.ensures.made
