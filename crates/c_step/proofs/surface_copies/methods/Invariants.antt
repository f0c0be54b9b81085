use Rattle.std.proofs.Common.{◌≡◌, take}
use Rattle.c_step.proofs.surface_copies.methods.Given as goal

abbrev pub invariant-loop-it : goal.invariant-loop-it
invariant-loop-it l = l.copy.items ≡ take l.it-index l.all
