use Rattle.std.proofs.Common.{◌≡◌, ◌≤◌, ◌-◌, take, drop, length}
use Rattle.c_text.specs.CNodes.{unit_tree}
use Rattle.c_meaning.specs.UnitForm.{break_from, first_break}
use Rattle.c_form.proofs.forming.checked.Given as goal

abbrev pub invariant-loop-i : goal.invariant-loop-i
invariant-loop-i l = record {
  front : l.front ≡ record { nodes = l.unit; count = l.i };
  within : l.i ≤ length l.unit.items;
  so_far : break_from l.surface (take l.i (unit_tree l.unit)) (unit_tree l.unit) (drop l.i (unit_tree l.unit)) ≡ first_break l.surface (unit_tree l.unit);
}

abbrev pub decreases-loop-i : goal.decreases-loop-i
decreases-loop-i l = length l.unit.items - l.i
