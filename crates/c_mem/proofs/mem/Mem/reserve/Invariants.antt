use Rattle.std.proofs.Common.{◌≡◌, ◌≤◌, map, take, vec_len, vec_capacity}
use Rattle.c_mem.specs.FieldParts.{declared_object}
use Rattle.c_mem.proofs.mem.Mem.reserve.Given as goal

abbrev pub invariant-loop-object : goal.invariant-loop-object
invariant-loop-object l = (l.made.items ≡ map declared_object (take l.object-index l.objects)) × ((vec_len l.marks ≡ vec_len l.made) × ((l.count ≤ vec_capacity l.made) × (l.count ≤ vec_capacity l.marks)))
