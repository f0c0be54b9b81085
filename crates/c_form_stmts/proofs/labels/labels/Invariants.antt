use Rattle.std.proofs.Common.{◌≤◌, ◌-◌, map, drop, length}
use Rattle.c_meaning.specs.UnitForm.{all_distinct}
use Rattle.c_form_stmts.specs.Lines.{line_in, HasLines}
use Rattle.c_form_stmts.specs.Statements.{label_names}
use Rattle.c_form_stmts.specs.Labels.{Labelled}
use Rattle.c_form_stmts.proofs.labels.labels.Given as goal

abbrev pub invariant-loop-i : goal.invariant-loop-i
invariant-loop-i l = record {
  labelled : Labelled (map (line_in l.unit) l.lines) (map (line_in l.unit) (drop l.i l.lines)) l.table l.i (all_distinct (label_names (map (line_in l.unit) l.lines)));
  within : l.i ≤ length l.lines;
  has : HasLines l.unit (drop l.i l.lines);
}

abbrev pub decreases-loop-i : goal.decreases-loop-i
decreases-loop-i l = length l.lines - l.i
