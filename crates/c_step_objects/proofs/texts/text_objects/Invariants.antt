use Rattle.std.proofs.Common.{◌≡◌, ◌≤◌, ◌-◌, length}
use Rattle.c_step_objects.specs.Texts.{texts_before}
use Rattle.c_step_objects.proofs.texts.text_objects.Given as goal

abbrev pub invariant-loop-i : goal.invariant-loop-i
invariant-loop-i l = record {
  within : l.i ≤ length l.unit.items;
  so_far : l.all.items ≡ texts_before l.unit l.i;
}

abbrev pub decreases-loop-i : goal.decreases-loop-i
decreases-loop-i l = length l.unit.items - l.i
