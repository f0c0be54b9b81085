use Rattle.std.proofs.Common.{◌≡◌, ◌+◌, ◌++◌, length}
use Rattle.std.specs.Vec.Iter.{into_iter_items, into_iter_len}
use Rattle.c_mem.specs.MemoryViews.{memory, HasRoom}
use Rattle.c_step_objects.proofs.rooms.reserved.Given as goal

abbrev pub invariant-loop-object : goal.invariant-loop-object
invariant-loop-object l = record {
  objects : memory l.mem ++ into_iter_items l.object-iterator ≡ into_iter_items l.initial.object-iterator;
  room : HasRoom l.mem (length (into_iter_items l.object-iterator) + l.more);
  left : into_iter_len l.object-iterator ≡ length (into_iter_items l.object-iterator);
}
