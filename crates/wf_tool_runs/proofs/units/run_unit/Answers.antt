use Rattle.std.proofs.Common.{length, map, subst}
use Rattle.wf_bufs.specs.EngineLaw.{steps_of}
use Rattle.wf_bufs.specs.SurfaceViews.{receiver_of}
use Rattle.c_text.specs.CNodes.{unit_tree}
use Rattle.wf_script_rules.specs.Report.{Report}
use Rattle.wf_script_drive.specs.Driving.{Drives, FitsDrive}
use Rattle.wf_tool_runs.proofs.UnitRuns.{are-declared, report-seen}
use Rattle.wf_tool_runs.proofs.units.run_unit.Goals as goal

pub load-requires-clause-declared : goal.load-requires-clause-declared
load-requires-clause-declared g c = are-declared c.args.prepared.now c.requires.prepared (map receiver_of c.receivers.result.now) c.receivers.ensures

pub returns-clause-runs : goal.returns-clause-runs
returns-clause-runs g c =
    let seen = g.L.Loader.seen c.args.loader.now in
    let items = unit_tree c.args.unit in
    let end = c.in_ok-end.end in
    let steps = steps_of {State = g.L.E.Engine.State} g.L.E.Engine.surface g.L.E.Engine.init_gives g.L.E.Engine.call_gives in
    let same = report-seen c.args.prepared.now c.requires.prepared (map receiver_of c.receivers.result.now) c.receivers.ensures seen items steps (g.L.E.Engine.state c.in_ok-engine.engine) c.in_ok-engine.ensures.seen in
    let D : Report → Type 0 = λ report. Drives (g.O.Sink.written c.args.out.now) (g.O.Sink.written c.drive.new.out) end report in
    let F : Report → Type 0 = λ report. FitsDrive (g.O.Sink.room c.args.out.now) (g.O.Sink.room c.drive.new.out) end (length report.text) in
    (c.in_ok-engine.ensures.form, subst D same c.in_ok-end.ensures.report, subst F same c.in_ok-end.ensures.room)
