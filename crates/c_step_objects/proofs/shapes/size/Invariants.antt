use Rattle.std.proofs.Common.{◌≡◌, ◌+◌, suc, drop}
use Rattle.c_step_objects.specs.Shapes.{sizes_inside}
use Rattle.c_step_objects.proofs.shapes.size.Given as goal

abbrev pub invariant-loop-field : goal.invariant-loop-field
invariant-loop-field l = l.n + sizes_inside l.shapes (drop l.field-index l.fields) ≡ suc (sizes_inside l.shapes l.fields)
