use Rattle.wf_lower_laws.proofs.PlaceLaw.{bodies_break}
use Rattle.wf_lower_laws.proofs.laws.bodies_break_behind_loops.Goals as goal

pub returns : goal.returns
returns c = bodies_break
