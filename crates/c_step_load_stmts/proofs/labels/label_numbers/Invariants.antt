use Rattle.std.proofs.Common.{◌≤◌, ◌-◌, length, take, map}
use Rattle.c_step_places.specs.Places.{place_in}
use Rattle.c_step_load_stmts.specs.Bodies.{HasLabels}
use Rattle.c_step_load_stmts.proofs.labels.label_numbers.Given as goal

abbrev pub invariant-loop-i : goal.invariant-loop-i
invariant-loop-i l = record {
  within : l.i ≤ length l.listed.items;
  labels : HasLabels l.table (map (place_in l.it.unit.now) (take l.i l.listed.items));
}

abbrev pub decreases-loop-i : goal.decreases-loop-i
decreases-loop-i l = length l.listed.items - l.i
