use Rattle.wf_lower_laws.proofs.PlaceLaw.{bodies_resume}
use Rattle.wf_lower_laws.proofs.laws.bodies_resume_at_points.Goals as goal

pub returns : goal.returns
returns c = bodies_resume
