use Rattle.std.proofs.Common.{◌+◌, ◌∙◌, arith, length}
use Rattle.wf_bufs.specs.declared.calls.Arg.TheVariants.{Num}
use Rattle.wf_bufs.specs.HostSeen.{host_of}
use Rattle.c_mem.specs.MemoryViews.{memory}
use Rattle.c_step_hosts.proofs.Steps.{less_room, next_there, one_io}
use Rattle.c_step_hosts.proofs.ios.enter_named.Goals as goal

pub enter_io-requires-clause-there : goal.enter_io-requires-clause-there
enter_io-requires-clause-there c =
    (next_there (length c.args.host.now.bufs) (length c.args.host.now.arrays) c.args.args.now c.loop-arg.arg-index (Num 0) c.loop-arg-test.true c.loop-arg.invariant.1.1.1.1.1.1).0

pub enter_io-requires-clause-room : goal.enter_io-requires-clause-room
enter_io-requires-clause-room c = c.loop-arg.invariant.1.1.0 1 (less_room c.args.mem.now (1 + c.loop-arg.arg-index) (length c.args.args.now) (omega (arith, c.loop-arg-test.true)) c.requires.room)

pub loop-arg-preserved : goal.loop-arg-preserved
loop-arg-preserved c =
    let i = c.loop-arg.invariant in (
      one_io (host_of c.args.host.now) (memory c.loop-arg.mem) (memory c.enter_io.new.mem) c.loop-arg.object c.loop-arg.arg-index c.args.args.now (Num 0) _ c.loop-arg-test.true i.0 c.enter_io.ensures.memory,
      (
        omega (arith, i.1.0),
        (
          λ more h. c.enter_io.ensures.room more (i.1.1.0 (more + 1) (less_room c.args.mem.now ((more + 1) + c.loop-arg.arg-index) (more + (c.loop-arg.arg-index + 1)) (omega arith) h)),
          (
            c.enter_io.ensures.spare,
            (
              omega (arith, i.1.1.1.1.0, c.enter_io.ensures.count),
              (
                c.enter_io.ensures.kept ∙ i.1.1.1.1.1.0,
                (next_there (length c.args.host.now.bufs) (length c.args.host.now.arrays) c.args.args.now c.loop-arg.arg-index (Num 0) c.loop-arg-test.true i.1.1.1.1.1.1).1,
              ),
            ),
          ),
        ),
      ),
    )

pub returns-clause-room : goal.returns-clause-room
returns-clause-room c = λ more h. c.loop-arg.invariant.1.1.0 more (less_room c.args.mem.now (more + c.loop-arg.arg-index) (more + length c.args.args.now) (omega (arith, c.loop-arg.auto.arg-index-end)) h)
