use Rattle.std.proofs.Common.{◌≡◌, drop, map, take}
use Rattle.c_text.specs.CNodes.{field_tree}
use Rattle.c_text.specs.CFits.{HasFields}
use Rattle.c_form_exprs.specs.Front.{Tells, IsField}
use Rattle.c_form_exprs.proofs.front.field_table.Given as goal

abbrev pub invariant-loop-field : goal.invariant-loop-field
invariant-loop-field l =
    HasFields l.unit (drop l.field-index l.fields) × (l.table.names ≡ l.unit.names) × Tells (IsField l.unit) (λ f. f.name) l.table.entries (map (field_tree l.unit.names) (take l.field-index l.fields))
