use Rattle.std.proofs.Common.{◌≡◌, ℕ, ◌+◌, length, map, take, drop}
use Rattle.wf_base.specs.HostRun.{Host}
use Rattle.wf_base.specs.LawfulActions.{AreDistinct, named_buffers, named_arrays}
use Rattle.wf_bufs.specs.HostViews.{arg_of}
use Rattle.wf_bufs.specs.HostSeen.{host_of}
use Rattle.c_meaning.specs.CRun.{args_left}
use Rattle.c_mem.specs.MemoryViews.{memory, HasRoom}
use Rattle.c_step_hosts.specs.Lending.{AreThere, all_lent}
use Rattle.c_step_hosts.specs.Taking.{HaveShapes}
use Rattle.c_step_hosts.proofs.Backs.{TakesOn}
use Rattle.c_step_hosts.proofs.taking.take_back.Given as goal

abbrev pub invariant-loop-arg : goal.invariant-loop-arg
invariant-loop-arg l = record {
  taken : (was : Host) → host_of l.initial.host ≡ all_lent (map arg_of l.args) was → HaveShapes (memory l.initial.mem) l.fn.places.bytes was (map arg_of l.args)
      → TakesOn (args_left (memory l.initial.mem) l.fn.places.buffer l.fn.places.bytes (map arg_of l.args) was) l.fn.places.bytes (memory l.mem) l.io l.object (host_of l.host) (drop l.arg-index (map arg_of l.args));
  buffer : l.io ≡ l.fn.places.buffer + l.arg-index;
  object : l.object ≡ l.fn.places.bytes + l.arg-index;
  there : AreThere (length l.host.bufs) (length l.host.arrays) (drop l.arg-index (map arg_of l.args));
  buffers : AreDistinct (named_buffers (drop l.arg-index (map arg_of l.args)));
  arrays : AreDistinct (named_arrays (drop l.arg-index (map arg_of l.args)));
  below : take l.fn.places.bytes (memory l.mem) ≡ take l.fn.places.bytes (memory l.initial.mem);
  count : length (memory l.mem) ≡ length (memory l.initial.mem);
  room : (more : ℕ) → HasRoom l.initial.mem more → HasRoom l.mem more;
}
