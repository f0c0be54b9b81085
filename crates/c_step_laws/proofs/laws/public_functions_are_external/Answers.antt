use Rattle.c_step_laws.proofs.PublicLaws.{public_external}
use Rattle.c_step_laws.proofs.laws.public_functions_are_external.Goals as goal

pub returns : goal.returns
returns c = public_external
