use Rattle.std.proofs.Common.{◌≡◌, max, drop}
use Rattle.c_meaning.specs.CRun.{most_args}
use Rattle.c_step_objects.proofs.rooms.most_args.Given as goal

abbrev pub invariant-loop-it : goal.invariant-loop-it
invariant-loop-it l = max l.most (most_args (drop l.it-index l.structs)) ≡ most_args l.structs
