use Rattle.turns.proofs.Unfolds.{unfolds}
use Rattle.c_meaning.specs.CStep.{weight, step}
use Rattle.c_meaning.proofs.Weights.{step_falls}
use Rattle.c_meaning.proofs.laws.a_body_runs_step_by_step.Goals as goal

pub returns : goal.returns
returns c = λ r n s. unfolds (step r) weight (step_falls r) n s
