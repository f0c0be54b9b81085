use Rattle.std.proofs.Common.{◌≡◌, ◌≤◌, ◌++◌, length, drop}
use Rattle.std.specs.Prelude.{reverse}
use Rattle.c_step_objects.specs.Shapes.{inside_of}
use Rattle.c_step_objects.proofs.objects.put_inside.Given as goal

abbrev pub invariant-loop-i : goal.invariant-loop-i
invariant-loop-i l = record {
  within : l.i ≤ length l.fields;
  so_far : reverse l.left.items ≡ inside_of (drop l.i l.fields) ++ reverse l.fn.left.items;
}

abbrev pub decreases-loop-i : goal.decreases-loop-i
decreases-loop-i l = l.i
