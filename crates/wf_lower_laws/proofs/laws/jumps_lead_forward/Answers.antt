use Rattle.wf_lower_laws.proofs.JumpLaw.{texts_jump_forward}
use Rattle.wf_lower_laws.proofs.laws.jumps_lead_forward.Goals as goal

pub returns : goal.returns
returns c = texts_jump_forward
