use Rattle.std.proofs.Common.{◌≡◌, map, take}
use Rattle.c_mem.specs.FieldParts.{declared_field}
use Rattle.c_mem.proofs.objects.Object.new.Given as goal

abbrev pub invariant-loop-field : goal.invariant-loop-field
invariant-loop-field l = l.fields.items ≡ map declared_field (take l.field-index l.field-items)
