use Rattle.wf_lower.proofs.Kept.{functions_push}
use Rattle.wf_lower.proofs.lowering.add_initialize.Goals as goal

pub returns-clause-made : goal.returns-clause-made
returns-clause-made c = functions_push _ _ _ _ c.put_into.result c.initialize_function.ensures.grows c.in_ok-item.ensures.made c.put_into.ensures
