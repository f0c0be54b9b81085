use Rattle.std.proofs.Common.{ℕ, ◌+◌, ◌≤◌, vec_capacity}
use Rattle.c_mem.specs.MemoryViews.{memory, HasRoom}
use Rattle.c_step_hosts.specs.Leaving.{MovesLast}
use Rattle.c_step_hosts.proofs.leaving.leave_some.Given as goal

abbrev pub invariant-loop : goal.invariant-loop
invariant-loop l = record {
  moves : MovesLast l.counter (memory l.initial.mem) (memory l.mem) l.initial.spares.items l.spares.items;
  room : (more : ℕ) → HasRoom l.initial.mem more → HasRoom l.mem (more + l.counter);
  kept : vec_capacity l.initial.spares ≤ vec_capacity l.spares;
}
