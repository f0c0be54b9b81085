use Rattle.std.proofs.Common.{◌≡◌, length}
use Rattle.c_step_hosts.specs.Spares.{HaveBytes}
use Rattle.c_step_objects.proofs.rooms.byte_objects.Given as goal

abbrev pub invariant-loop : goal.invariant-loop
invariant-loop l = record {
  are : HaveBytes l.all.items;
  many : length l.all.items ≡ l.counter;
}
