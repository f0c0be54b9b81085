use Rattle.wf_lower.proofs.InitLaws.{only_param}
use Rattle.wf_lower.proofs.initializing.params.Goals as goal

pub returns-clause-made : goal.returns-clause-made
returns-clause-made c = only_param _ _ _ c.from_slice.result c.in_ok-receiver.ensures.made c.from_slice.ensures
