use Rattle.wf_bounds_laws.proofs.TypedBounds.{typing_keeps_bounds, typing_keeps_points}
use Rattle.wf_bounds_laws.proofs.refusals.typing_keeps_what_is_refused.Goals as goal

pub returns-clause-bounds : goal.returns-clause-bounds
returns-clause-bounds c = typing_keeps_bounds

pub returns-clause-points : goal.returns-clause-points
returns-clause-points c = typing_keeps_points
