use Rattle.wf_lower.proofs.Kept.{params_push}
use Rattle.wf_lower.proofs.declaring.add_param.Goals as goal

pub returns-clause-made : goal.returns-clause-made
returns-clause-made c = params_push _ _ _ _ c.push.result c.param.ensures.grows c.in_ok-param.ensures.made c.push.ensures.ok
