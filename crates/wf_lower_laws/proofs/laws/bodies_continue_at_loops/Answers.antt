use Rattle.wf_lower_laws.proofs.PlaceLaw.{bodies_continue}
use Rattle.wf_lower_laws.proofs.laws.bodies_continue_at_loops.Goals as goal

pub returns : goal.returns
returns c = bodies_continue
