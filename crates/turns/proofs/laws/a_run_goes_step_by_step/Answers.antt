use Rattle.turns.proofs.Unfolds.{unfolds}
use Rattle.turns.proofs.laws.a_run_goes_step_by_step.Goals as goal

pub returns : goal.returns
returns g c step weight falls n s = unfolds step weight falls n s
