use Rattle.std.proofs.Common.{◌≡◌, drop}
use Rattle.c_step_text.specs.Flat.{arm_of}
use Rattle.c_step_run.proofs.leaps.arm.Given as goal

abbrev pub invariant-loop-arm : goal.invariant-loop-arm
invariant-loop-arm l = arm_of l.n l.arms ≡ arm_of l.n (drop l.arm-index l.arms)
