use Rattle.std.proofs.Common.{◌+◌, length, arith}
use Rattle.wf_bufs.specs.HostSeen.{host_of}
use Rattle.c_mem.specs.MemoryViews.{memory}
use Rattle.c_step_run.proofs.Rooms.{fewer_objects}
use Rattle.c_step_calls.proofs.Shapes.{lent_memory}
use Rattle.c_step_calls.proofs.passing.lend.Goals as goal

pub enter_ios-requires-clause-room : goal.enter_ios-requires-clause-room
enter_ios-requires-clause-room c = fewer_objects c.args.mem.now (c.args.most + length c.args.args.now) c.args.most (omega arith) c.requires.fits

pub lend_all-requires-clause-room : goal.lend_all-requires-clause-room
lend_all-requires-clause-room c =
    c.enter_ios.ensures.room (length c.args.args.now) (fewer_objects c.args.mem.now (c.args.most + length c.args.args.now) (length c.args.args.now + c.args.most) (omega arith) c.requires.fits)

pub lend_all-requires-clause-some : goal.lend_all-requires-clause-some
lend_all-requires-clause-some c = omega (arith, c.requires.few, c.requires.spare.many_bytes)

pub returns-clause-memory : goal.returns-clause-memory
returns-clause-memory c =
    lent_memory (host_of c.args.host.now) (memory c.args.mem.now) (memory c.enter_ios.new.mem) (memory c.lend_all.new.mem) c.args.most c.args.places.bytes c.args.args.now c.requires.after c.enter_ios.ensures.memory c.lend_all.ensures.memory

pub returns-clause-room : goal.returns-clause-room
returns-clause-room c = λ more h.
    c.lend_all.ensures.room more
    (c.enter_ios.ensures.room (more + length c.args.args.now) (fewer_objects c.args.mem.now (more + (c.args.most + length c.args.args.now)) ((more + length c.args.args.now) + c.args.most) (omega arith) h))
