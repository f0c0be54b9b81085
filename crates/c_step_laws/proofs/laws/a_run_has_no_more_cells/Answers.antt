use Rattle.c_step_laws.proofs.RunLaws.{cells_are_enough}
use Rattle.c_step_laws.proofs.laws.a_run_has_no_more_cells.Goals as goal

pub returns : goal.returns
returns c = cells_are_enough
