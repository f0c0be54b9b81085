use Rattle.std.proofs.Common.{◌≡◌, ℕ, ◌+◌, ◌++◌, length, map, drop, vec_capacity}
use Rattle.wf_bufs.specs.HostViews.{arg_of}
use Rattle.wf_bufs.specs.HostSeen.{host_of}
use Rattle.c_meaning.specs.CRun.{byte_objects}
use Rattle.c_mem.specs.MemoryViews.{memory, HasRoom}
use Rattle.c_step_hosts.specs.Lending.{all_lent}
use Rattle.c_step_hosts.specs.Spares.{HaveBytes}
use Rattle.c_step_hosts.proofs.Lent.{LendsOn}
use Rattle.c_step_hosts.proofs.lending.lend_all.Given as goal

abbrev pub invariant-loop-arg : goal.invariant-loop-arg
invariant-loop-arg l =
    LendsOn (memory l.initial.mem ++ byte_objects (host_of l.initial.host) (map arg_of l.args)) (all_lent (map arg_of l.args) (host_of l.initial.host)) (memory l.mem) (host_of l.host) (drop l.arg-index (map arg_of l.args))
    × (((more : ℕ) → HasRoom l.initial.mem (more + l.arg-index) → HasRoom l.mem more)
    × (HaveBytes l.spares.items
    × ((length l.spares.items + l.arg-index ≡ length l.initial.spares.items)
    × (vec_capacity l.spares ≡ vec_capacity l.initial.spares))))
