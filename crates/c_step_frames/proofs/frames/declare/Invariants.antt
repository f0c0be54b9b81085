use Rattle.std.proofs.Common.{◌≡◌, ◌++◌, map, take}
use Rattle.c_mem.specs.FieldParts.{declared_field}
use Rattle.c_step_frames.specs.Frames.{unset_cells}
use Rattle.c_step_frames.proofs.frames.declare.Given as goal

abbrev pub invariant-loop-ty : goal.invariant-loop-ty
invariant-loop-ty l = map declared_field l.fields.items ≡ map declared_field l.fn.fields.items ++ unset_cells (take l.ty-index l.types)
