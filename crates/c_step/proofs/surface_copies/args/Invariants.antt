use Rattle.std.proofs.Common.{◌≡◌, take}
use Rattle.c_step.proofs.surface_copies.args.Given as goal

abbrev pub invariant-loop-arg : goal.invariant-loop-arg
invariant-loop-arg l = l.copy.items ≡ take l.arg-index l.all
