use Rattle.std.proofs.Common.{◌≤◌, ◌-◌, length}
use Rattle.c_step_load.specs.Loading.{functions_before}
use Rattle.c_step_cells.specs.Growing.{AreChains}
use Rattle.c_step_cells.proofs.chains.frame_cells.Given as goal

abbrev pub invariant-loop-i : goal.invariant-loop-i
invariant-loop-i l = record {
  within : l.i ≤ length l.unit.items;
  so_far : AreChains l.code (functions_before l.unit l.i) l.chains;
}

abbrev pub decreases-loop-i : goal.decreases-loop-i
decreases-loop-i l = length l.unit.items - l.i
