use Rattle.std.proofs.Common.{◌≡◌, ◌++◌, map, take, drop}
use Rattle.c_mem.specs.FieldParts.{unset_field}
use Rattle.c_mem.proofs.objects.Object.unset.Given as goal

abbrev pub invariant-loop-field : goal.invariant-loop-field
invariant-loop-field l = l.field-items ≡ map unset_field (take l.field-index l.initial.field-items) ++ drop l.field-index l.initial.field-items
