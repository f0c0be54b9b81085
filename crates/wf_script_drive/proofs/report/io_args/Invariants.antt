use Rattle.std.proofs.Common.{map}
use Rattle.pens.proofs.Progress.{Progress}
use Rattle.wf_bufs.specs.HostViews.{arg_of}
use Rattle.wf_bufs.specs.HostSeen.{host_of}
use Rattle.wf_script_rules.specs.Report.{io_texts}
use Rattle.wf_script_drive.specs.Sights.{sight_of}
use Rattle.wf_script_drive.proofs.report.io_args.Given as goal

abbrev pub invariant-loop-arg : goal.invariant-loop-arg
invariant-loop-arg g l = record {
  ready : g.P.Pen.ready l.pen;
  so_far : Progress g.P.Pen.writes (λ args. io_texts l.names (sight_of (host_of l.host)) (map arg_of args)) l.args l.initial.pen l.pen l.arg-index;
}
