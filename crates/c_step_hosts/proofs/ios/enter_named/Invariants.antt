use Rattle.std.proofs.Common.{◌≡◌, ℕ, ◌+◌, ◌++◌, length, map, drop, vec_capacity}
use Rattle.wf_bufs.specs.HostViews.{arg_of}
use Rattle.wf_bufs.specs.HostSeen.{host_of}
use Rattle.c_meaning.specs.CRun.{io_objects}
use Rattle.c_mem.specs.MemoryViews.{memory, HasRoom}
use Rattle.c_step_hosts.specs.Lending.{AreThere}
use Rattle.c_step_hosts.specs.Spares.{AreIos}
use Rattle.c_step_hosts.proofs.ios.enter_named.Given as goal

abbrev pub invariant-loop-arg : goal.invariant-loop-arg
invariant-loop-arg l =
    (memory l.mem ++ io_objects (host_of l.host) l.object (drop l.arg-index (map arg_of l.args)) ≡ memory l.initial.mem ++ io_objects (host_of l.host) l.bytes (map arg_of l.args))
    × ((l.object ≡ l.bytes + l.arg-index)
    × (((more : ℕ) → HasRoom l.initial.mem (more + l.arg-index) → HasRoom l.mem more)
    × (AreIos l.spares.items
    × ((length l.spares.items + l.arg-index ≡ length l.initial.spares.items)
    × ((vec_capacity l.spares ≡ vec_capacity l.initial.spares)
    × AreThere (length l.host.bufs) (length l.host.arrays) (drop l.arg-index (map arg_of l.args)))))))
