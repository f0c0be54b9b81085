use Rattle.std.proofs.Common.{◌≡◌, max, drop}
use Rattle.c_meaning.specs.CRun.{most_in}
use Rattle.c_step_objects.proofs.rooms.most_args_in.Given as goal

abbrev pub invariant-loop-method : goal.invariant-loop-method
invariant-loop-method l = max l.most (most_in (drop l.method-index l.methods)) ≡ most_in l.methods
