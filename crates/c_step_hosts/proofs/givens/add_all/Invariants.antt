use Rattle.std.proofs.Common.{◌≡◌, ◌+◌, ◌*◌, ◌≤◌, ◌++◌, length, map, drop, vec_capacity}
use Rattle.wf_bufs.specs.HostViews.{arg_of}
use Rattle.wf_bufs.specs.HostSeen.{host_of}
use Rattle.c_meaning.specs.CRun.{all_values}
use Rattle.c_step_hosts.specs.Lending.{AreThere}
use Rattle.c_step_hosts.proofs.givens.add_all.Given as goal

abbrev pub invariant-loop-arg : goal.invariant-loop-arg
invariant-loop-arg l =
    (l.given.items ++ all_values (host_of l.host) l.io l.object (drop l.arg-index (map arg_of l.args)) ≡ l.initial.given.items ++ all_values (host_of l.host) l.buffer l.bytes (map arg_of l.args))
    × ((l.io ≡ l.buffer + l.arg-index)
    × ((l.object ≡ l.bytes + l.arg-index)
    × ((length l.given.items ≤ length l.initial.given.items + 2 * l.arg-index)
    × ((vec_capacity l.initial.given ≤ vec_capacity l.given)
    × AreThere (length l.host.bufs) (length l.host.arrays) (drop l.arg-index (map arg_of l.args))))))
