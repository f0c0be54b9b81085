use Rattle.std.proofs.Common.{◌≤◌, ◌-◌, length, take, map}
use Rattle.c_text.specs.CNodes.{bytes_at}
use Rattle.c_step_load_exprs.specs.Knowing.{HasNamePlaces}
use Rattle.c_step_load_exprs.proofs.numbers.number_fields.Given as goal

abbrev pub invariant-loop-i : goal.invariant-loop-i
invariant-loop-i l = record {
  within : l.i ≤ length l.fields;
  places : HasNamePlaces l.unit l.table (map (λ f. bytes_at l.unit.names f.name.0) (take l.i l.fields));
}

abbrev pub decreases-loop-i : goal.decreases-loop-i
decreases-loop-i l = length l.fields - l.i
