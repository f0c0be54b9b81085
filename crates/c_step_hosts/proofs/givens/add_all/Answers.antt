use Rattle.std.proofs.Common.{◌+◌, ◌*◌, arith, length, slice_index_or}
use Rattle.wf_bufs.specs.declared.calls.Arg.TheVariants.{Num}
use Rattle.wf_bufs.specs.HostViews.{arg_of}
use Rattle.wf_bufs.specs.HostSeen.{host_of}
use Rattle.c_step_hosts.proofs.Steps.{next_there, one_given, few_more}
use Rattle.c_step_hosts.proofs.givens.add_all.Goals as goal

pub add_values-requires-clause-there : goal.add_values-requires-clause-there
add_values-requires-clause-there c =
    (next_there (length c.args.host.now.bufs) (length c.args.host.now.arrays) c.args.args.now c.loop-arg.arg-index (Num 0) c.loop-arg-test.true c.loop-arg.invariant.1.1.1.1.1).0

pub loop-arg-preserved : goal.loop-arg-preserved
loop-arg-preserved c =
    let i = c.loop-arg.invariant in
    let more = few_more (host_of c.args.host.now) c.loop-arg.io c.loop-arg.object (arg_of (slice_index_or c.args.args.now c.loop-arg.arg-index (Num 0))) c.loop-arg.given.items c.add_values.new.given.items
    (length c.args.given.now.items + 2 * c.loop-arg.arg-index) c.add_values.ensures.values i.1.1.1.0 in (
      one_given (host_of c.args.host.now) c.loop-arg.given.items c.add_values.new.given.items c.loop-arg.io c.loop-arg.object c.loop-arg.arg-index c.args.args.now (Num 0) _ c.loop-arg-test.true i.0 c.add_values.ensures.values,
      (
        omega (arith, i.1.0),
        (
          omega (arith, i.1.1.0),
          (
            omega (arith, more),
            (
              omega (arith, i.1.1.1.1.0, c.add_values.ensures.room),
              (next_there (length c.args.host.now.bufs) (length c.args.host.now.arrays) c.args.args.now c.loop-arg.arg-index (Num 0) c.loop-arg-test.true i.1.1.1.1.1).1,
            ),
          ),
        ),
      ),
    )
