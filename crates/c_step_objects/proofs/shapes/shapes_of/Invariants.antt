use Rattle.std.proofs.Common.{◌≤◌, ◌-◌, length}
use Rattle.c_step_objects.specs.Structs.{AreShapes, structs_before}
use Rattle.c_step_objects.proofs.shapes.shapes_of.Given as goal

abbrev pub invariant-loop-i : goal.invariant-loop-i
invariant-loop-i l = record {
  within : l.i ≤ length l.unit.items;
  so_far : AreShapes l.shapes (structs_before l.unit l.i);
}

abbrev pub decreases-loop-i : goal.decreases-loop-i
decreases-loop-i l = length l.unit.items - l.i
