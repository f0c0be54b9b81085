use Rattle.std.proofs.Common.{◌≡◌, ◌++◌, drop}
use Rattle.c_step_objects.specs.Shapes.{placed}
use Rattle.c_step_objects.proofs.objects.place.Given as goal

abbrev pub invariant-loop-field : goal.invariant-loop-field
invariant-loop-field l = l.all.items ++ placed l.shapes (drop l.field-index l.fields) l.at ≡ placed l.shapes l.fields l.fn.from
