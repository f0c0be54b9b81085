use Rattle.std.proofs.Common.{◌≡◌, ℕ, ◌+◌, ◌++◌, length, replicate, vec_capacity}
use Rattle.c_meaning.specs.CRun.{no_buffer}
use Rattle.c_mem.specs.MemoryViews.{memory, HasRoom}
use Rattle.c_step_hosts.specs.Spares.{AreIos}
use Rattle.c_step_hosts.proofs.ios.enter_others.Given as goal

abbrev pub invariant-loop : goal.invariant-loop
invariant-loop l =
    (memory l.mem ≡ memory l.initial.mem ++ replicate l.counter no_buffer)
    × (((more : ℕ) → HasRoom l.initial.mem (more + l.counter) → HasRoom l.mem more)
    × (AreIos l.spares.items
    × ((length l.spares.items + l.counter ≡ length l.initial.spares.items)
    × (vec_capacity l.spares ≡ vec_capacity l.initial.spares))))
