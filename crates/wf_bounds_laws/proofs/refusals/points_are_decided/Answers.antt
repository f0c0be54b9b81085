use Rattle.wf_bounds_laws.proofs.DecidedPoints.{points_are_decided}
use Rattle.wf_bounds_laws.proofs.refusals.points_are_decided.Goals as goal

pub returns : goal.returns
returns c = points_are_decided
