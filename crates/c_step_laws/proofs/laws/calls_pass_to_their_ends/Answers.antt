use Rattle.c_step_laws.proofs.EndLaws.{calls_pass}
use Rattle.c_step_laws.proofs.laws.calls_pass_to_their_ends.Goals as goal

pub returns : goal.returns
returns c = calls_pass
