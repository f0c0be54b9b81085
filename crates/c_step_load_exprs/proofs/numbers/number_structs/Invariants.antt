use Rattle.std.proofs.Common.{◌≤◌, ◌-◌, length, take}
use Rattle.c_text.specs.CNodes.{unit_tree}
use Rattle.c_meaning.specs.CTypes.{structs_of}
use Rattle.c_step_load_exprs.specs.Knowing.{HasStructs}
use Rattle.c_step_load_exprs.proofs.numbers.number_structs.Given as goal

abbrev pub invariant-loop-i : goal.invariant-loop-i
invariant-loop-i l = record {
  within : l.i ≤ length l.unit.items;
  structs : HasStructs l.unit l.structs.fields.items l.structs.by_name (structs_of (take l.i (unit_tree l.unit)));
}

abbrev pub decreases-loop-i : goal.decreases-loop-i
decreases-loop-i l = length l.unit.items - l.i
