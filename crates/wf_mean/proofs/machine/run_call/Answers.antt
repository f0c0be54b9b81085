use Rattle.std.proofs.Common.{map}
use Rattle.wf_bufs.specs.HostViews.{arg_of}
use Rattle.wf_mean.proofs.CallLaws.{frames-count, run-told}
use Rattle.wf_mean.proofs.machine.run_call.Goals as goal

pub returns-clause-runs : goal.returns-clause-runs
returns-clause-runs c callee is =
    run-told c.args.t.now c.requires.typed _ c.args.m.0 _ c.requires.known callee _ (map arg_of c.args.args.now) _ _ _ is
    (frames-count c.args.t.now _ c.give_args-fit.ensures.frames) c.give_args-fit.ensures.fit (c.enter_method.ensures.runs callee _ is c.give_args-fit.ensures.given)
