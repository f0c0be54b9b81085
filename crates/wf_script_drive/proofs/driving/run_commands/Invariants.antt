use Rattle.std.proofs.Common.{◌≡◌, false, length, drop}
use Rattle.wf_bufs.specs.EngineLaw.{steps_of}
use Rattle.wf_bufs.specs.HostSeen.{host_of}
use Rattle.wf_script_drive.specs.Driving.{report_at}
use Rattle.wf_script_drive.proofs.ReportLaws.{Reaches}
use Rattle.wf_script_drive.proofs.driving.run_commands.Given as goal

abbrev pub invariant-loop-one : goal.invariant-loop-one
invariant-loop-one g l =
    let engine = g.E.Engine in
    let steps = steps_of engine.surface engine.init_gives engine.call_gives in
    let over = l.context.surface.now in
    let declared = l.context.declared.now in
    let first = engine.state l.initial.engine in
    let now = engine.state l.engine in
    record {
      ready : g.P.Pen.ready l.pen;
      goes_on : engine.stopped now ≡ false;
      surface : engine.surface now ≡ over;
      receivers : engine.receivers now ≡ engine.receivers first;
      buffers : length l.host.bufs ≡ length l.initial.host.bufs;
      arrays : length l.host.arrays ≡ length l.initial.host.arrays;
      reaches : Reaches g.P.Pen.writes (report_at steps over declared first (host_of l.initial.host) l.commands) (report_at steps over declared now (host_of l.host) (drop l.one-index l.commands)) l.initial.pen l.pen;
    }
