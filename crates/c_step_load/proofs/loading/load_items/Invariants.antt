use Rattle.std.proofs.Common.{◌≤◌, ◌-◌, length}
use Rattle.c_step_load.specs.Loading.{nodes_in, IsBuilt, code_before}
use Rattle.c_step_load.proofs.loading.load_items.Given as goal

abbrev pub invariant-loop-i : goal.invariant-loop-i
invariant-loop-i l = record {
  within : l.i ≤ length (nodes_in l.known).items;
  built : IsBuilt l.build (code_before (nodes_in l.known) l.i);
}

abbrev pub decreases-loop-i : goal.decreases-loop-i
decreases-loop-i l = length (nodes_in l.known).items - l.i
