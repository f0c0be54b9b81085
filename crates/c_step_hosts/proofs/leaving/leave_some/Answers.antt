use Rattle.std.proofs.Common.{◌+◌, arith}
use Rattle.c_mem.specs.MemoryViews.{memory}
use Rattle.c_step_hosts.proofs.Steps.{less_room}
use Rattle.c_step_hosts.proofs.Left.{moved_more}
use Rattle.c_step_hosts.proofs.leaving.leave_some.Goals as goal

pub loop-preserved : goal.loop-preserved
loop-preserved c = record {
  moves = moved_more c.loop.counter 1 (memory c.args.mem.now) (memory c.loop.mem) (memory c.leave_one.new.mem) c.args.spares.now.items c.loop.spares.items c.leave_one.new.spares.items c.loop.invariant.moves c.leave_one.ensures.moves;
  room = λ more h. less_room c.leave_one.new.mem (more + (c.loop.counter + 1)) ((more + c.loop.counter) + 1) (omega arith) (c.leave_one.ensures.room (more + c.loop.counter) (c.loop.invariant.room more h));
  kept = omega (arith, c.loop.invariant.kept, c.leave_one.ensures.kept);
}

pub returns-clause-room : goal.returns-clause-room
returns-clause-room c = λ more h. less_room c.loop.mem (more + c.args.count) (more + c.loop.counter) (omega (arith, c.loop-test.false)) (c.loop.invariant.room more h)
