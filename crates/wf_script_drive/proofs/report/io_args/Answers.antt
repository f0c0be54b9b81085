use Rattle.std.proofs.Common.{◌<◌, length, ap, map, List}
use Rattle.pens.proofs.Progress.{goes_on, unroll}
use Rattle.wf_bufs.specs.declared.calls.Arg.{Arg}
use Rattle.wf_bufs.specs.declared.calls.Arg.TheVariants as arg
use Rattle.wf_bufs.specs.HostViews.{arg_of}
use Rattle.wf_bufs.specs.HostSeen.{host_of}
use Rattle.wf_script_rules.specs.Report.{io_texts}
use Rattle.wf_script_drive.specs.Sights.{sight_of}
use Rattle.wf_script_drive.proofs.report.io_args.Goals as goal

pub loop-arg-preserved : goal.loop-arg-preserved
loop-arg-preserved g c =
    let within : c.loop-arg.arg-index < length c.args.args.now = c.loop-arg-test.true in
    let text = λ (args : List Arg). io_texts c.args.names.now (sight_of (host_of c.args.host.now)) (map arg_of args) in
    record {
      ready = c.io_arg.ensures.ready;
      so_far = goes_on g.P.Pen.writes text c.args.args.now _ _ _ c.loop-arg.arg-index _ (λ x y a b. g.met.P.Pen.joined _ _ _ x y a b) c.loop-arg.invariant.so_far (ap text (unroll c.args.args.now c.loop-arg.arg-index (arg.Num 0) within)) c.io_arg.ensures.writes;
    }
