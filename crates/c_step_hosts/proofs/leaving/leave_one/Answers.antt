use Rattle.std.proofs.Common.{refl}
use Rattle.c_step_hosts.proofs.leaving.leave_one.Goals as goal

pub returns-clause-room : goal.returns-clause-room
returns-clause-room c = λ more h. c.in-Some.ensures.room more h refl
