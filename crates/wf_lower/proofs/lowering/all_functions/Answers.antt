use Rattle.wf_lower.proofs.Functions.{all_made}
use Rattle.wf_lower.proofs.lowering.all_functions.Goals as goal

pub returns-clause-made : goal.returns-clause-made
returns-clause-made c = all_made _ _ _ _ _ c.in_ok-functions.ensures.items c.in_ok-add_all_initialize.ensures.made c.in_ok-add_methods.ensures.made
