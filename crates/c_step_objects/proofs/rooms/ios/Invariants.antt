use Rattle.std.proofs.Common.{◌≡◌, length}
use Rattle.c_step_hosts.specs.Spares.{AreIos}
use Rattle.c_step_objects.proofs.rooms.ios.Given as goal

abbrev pub invariant-loop : goal.invariant-loop
invariant-loop l = record {
  are : AreIos l.all.items;
  many : length l.all.items ≡ l.counter;
}
