use Rattle.std.proofs.Common.{◌≡◌, ◌≤◌, ◌-◌, length, take, map}
use Rattle.c_text.specs.CNodes.{unit_tree}
use Rattle.c_meaning.specs.CTypes.{texts_of}
use Rattle.c_form_exprs.specs.Tables.{named}
use Rattle.c_step_entries.proofs.statuses.statuses_by.Given as goal

abbrev pub invariant-loop-i : goal.invariant-loop-i
invariant-loop-i l = record {
  within : l.i ≤ length l.unit.items;
  so_far : l.statuses.items ≡ map (λ t. named l.table t.bytes) (texts_of (take l.i (unit_tree l.unit)));
}

abbrev pub decreases-loop-i : goal.decreases-loop-i
decreases-loop-i l = length l.unit.items - l.i
