use Rattle.std.proofs.Common.{◌≡◌, ◌≤◌, ◌-◌, length, take}
use Rattle.c_text.specs.CNodes.{unit_tree}
use Rattle.c_step_load_exprs.specs.Knowing.{HasNamePlaces, names_of}
use Rattle.c_step_load_exprs.proofs.numbers.number_items.Given as goal

abbrev pub invariant-loop-i : goal.invariant-loop-i
invariant-loop-i l = record {
  within : l.i ≤ length l.unit.items;
  count : l.number ≡ length (names_of l.kind (take l.i (unit_tree l.unit)));
  places : HasNamePlaces l.unit l.table (names_of l.kind (take l.i (unit_tree l.unit)));
}

abbrev pub decreases-loop-i : goal.decreases-loop-i
decreases-loop-i l = length l.unit.items - l.i
