use Rattle.std.proofs.Common.{◌≡◌, ◌≤◌, ◌-◌, length}
use Rattle.c_step_load.specs.Loading.{functions_before, frames_by}
use Rattle.c_step_load.proofs.frames.load_frames.Given as goal

abbrev pub invariant-loop-i : goal.invariant-loop-i
invariant-loop-i l = record {
  within : l.i ≤ length l.unit.items;
  so_far : l.frames.items ≡ frames_by l.whole (functions_before l.unit l.i);
}

abbrev pub decreases-loop-i : goal.decreases-loop-i
decreases-loop-i l = length l.unit.items - l.i
