use Rattle.std.proofs.Common.{◌≤◌, ◌-◌, drop, length}
use Rattle.c_text.specs.CNodes.{unit_tree}
use Rattle.c_form.proofs.ItemLemmas.{Names}
use Rattle.c_form.proofs.items.item_names.Given as goal

abbrev pub invariant-loop-i : goal.invariant-loop-i
invariant-loop-i l = record {
  names : Names (unit_tree l.unit) (drop l.i (unit_tree l.unit)) l.table l.i;
  within : l.i ≤ length l.unit.items;
}

abbrev pub decreases-loop-i : goal.decreases-loop-i
decreases-loop-i l = length l.unit.items - l.i
