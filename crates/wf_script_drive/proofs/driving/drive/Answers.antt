use Rattle.std.proofs.Common.{rules, ap, refl, subst, take, length}
use Rattle.pens.specs.Pens.{Prints}
use Rattle.pens.proofs.PenLemmas.{print_done}
use Rattle.wf_outside.specs.Sinks.{FitsRoom}
use Rattle.wf_base.specs.HostRun.{run, empty_host}
use Rattle.wf_bufs.specs.EngineLaw.{steps_of}
use Rattle.wf_bufs.specs.HostSeen.{host_of}
use Rattle.wf_script_rules.specs.Scripts.{actions_of}
use Rattle.wf_script_rules.specs.Report.{Report, report_of}
use Rattle.wf_script_drive.specs.declared.driving.DriveEnd.TheVariants.{OutFailed}
use Rattle.wf_script_drive.specs.Driving.{report_at, Drives, FitsDrive, EndsAs}
use Rattle.wf_script_drive.proofs.ReportLaws.{commands_may, report_whole}
use Rattle.wf_script_drive.proofs.DriveEnds.{stays_lost, room_kept, room_lost, front_of}
use Rattle.wf_script_drive.proofs.driving.drive.Goals as goal

pub run_commands-end-requires-clause-may : goal.run_commands-end-requires-clause-may
run_commands-end-requires-clause-may g c = rw c.commands.ensures (commands_may c.args.surface.now c.args.s.now (g.E.Engine.receivers (g.E.Engine.state c.args.engine.now)) (host_of c.args.host.now) c.requires.numbers c.requires.script c.requires.receivers c.requires.host)

pub returns-in-Ok-clause-room : goal.returns-in-Ok-clause-room
returns-in-Ok-clause-room g c =
    let engine = g.E.Engine in
    let steps = steps_of engine.surface engine.init_gives engine.call_gives in
    let first = engine.state c.args.engine.now in
    let whole = report_of c.args.surface.now c.args.s.now (run steps first empty_host (actions_of c.args.s.now)) in
    let same = report_whole steps c.args.surface.now c.args.s.now c.declared.result.now first (host_of c.args.host.now) c.commands.result.now c.declared.ensures c.commands.ensures c.requires.host in
    let all = print_done _ _ _ (report_at steps c.args.surface.now c.declared.result.now first (host_of c.args.host.now) c.commands.result.now).text c.finish.new.self.failed c.finish.result c.new-pen.ensures.fine (ap (λ n. take n c.new-pen.result.buffer) c.new-pen.ensures.empty) c.new-pen.ensures.none_sent refl (λ fine. ap (λ n. take n c.finish.new.self.buffer) (c.finish.ensures.empty fine)) c.run_commands-end.ensures.writes.1 c.finish.ensures.writes c.finish.ensures.answer in
    let all_now = rw c.new-pen.ensures.out at all in
    let fits : FitsRoom (g.O.Sink.room c.args.out.now) (g.O.Sink.room c.finish.new.self.out.now) c.finish.result (length whole.text) = subst (λ (r : Report). FitsRoom (g.O.Sink.room c.args.out.now) (g.O.Sink.room c.finish.new.self.out.now) c.finish.result (length r.text)) same all_now.room in
    let ends : EndsAs c.run_commands-end.result whole.end c.run_commands-end.new.pen.failed = subst (λ (r : Report). EndsAs c.run_commands-end.result r.end c.run_commands-end.new.pen.failed) same c.run_commands-end.ensures.end in
    let fine = stays_lost _ _ c.finish.result c.in-Ok.field-0 c.finish.ensures.writes c.finish.ensures.answer c.in-Ok.is in
    let told : FitsDrive (g.O.Sink.room c.args.out.now) (g.O.Sink.room c.finish.new.self.out.now) c.run_commands-end.result (length whole.text) = room_kept (g.O.Sink.room c.args.out.now) (g.O.Sink.room c.finish.new.self.out.now) c.run_commands-end.result whole c.run_commands-end.new.pen.failed (length whole.text) c.in-Ok.field-0 ends fine (rw c.in-Ok.is at fits) in
    search rules

pub returns-in-Err-clause-report : goal.returns-in-Err-clause-report
returns-in-Err-clause-report g c =
    let engine = g.E.Engine in
    let steps = steps_of engine.surface engine.init_gives engine.call_gives in
    let first = engine.state c.args.engine.now in
    let whole = report_of c.args.surface.now c.args.s.now (run steps first empty_host (actions_of c.args.s.now)) in
    let same = report_whole steps c.args.surface.now c.args.s.now c.declared.result.now first (host_of c.args.host.now) c.commands.result.now c.declared.ensures c.commands.ensures c.requires.host in
    let all = print_done _ _ _ (report_at steps c.args.surface.now c.declared.result.now first (host_of c.args.host.now) c.commands.result.now).text c.finish.new.self.failed c.finish.result c.new-pen.ensures.fine (ap (λ n. take n c.new-pen.result.buffer) c.new-pen.ensures.empty) c.new-pen.ensures.none_sent refl (λ fine. ap (λ n. take n c.finish.new.self.buffer) (c.finish.ensures.empty fine)) c.run_commands-end.ensures.writes.1 c.finish.ensures.writes c.finish.ensures.answer in
    let all_now = rw c.new-pen.ensures.out at all in
    let prints : Prints (g.O.Sink.written c.args.out.now) (g.O.Sink.written c.finish.new.self.out.now) c.finish.result whole.text = subst (λ (r : Report). Prints (g.O.Sink.written c.args.out.now) (g.O.Sink.written c.finish.new.self.out.now) c.finish.result r.text) same all_now.bytes in
    let told : Drives (g.O.Sink.written c.args.out.now) (g.O.Sink.written c.finish.new.self.out.now) OutFailed whole = front_of (g.O.Sink.written c.args.out.now) (g.O.Sink.written c.finish.new.self.out.now) c.in-Err.field-0 whole (rw c.in-Err.is at prints) in
    search rules

pub returns-in-Err-clause-room : goal.returns-in-Err-clause-room
returns-in-Err-clause-room g c =
    let engine = g.E.Engine in
    let steps = steps_of engine.surface engine.init_gives engine.call_gives in
    let first = engine.state c.args.engine.now in
    let whole = report_of c.args.surface.now c.args.s.now (run steps first empty_host (actions_of c.args.s.now)) in
    let same = report_whole steps c.args.surface.now c.args.s.now c.declared.result.now first (host_of c.args.host.now) c.commands.result.now c.declared.ensures c.commands.ensures c.requires.host in
    let all = print_done _ _ _ (report_at steps c.args.surface.now c.declared.result.now first (host_of c.args.host.now) c.commands.result.now).text c.finish.new.self.failed c.finish.result c.new-pen.ensures.fine (ap (λ n. take n c.new-pen.result.buffer) c.new-pen.ensures.empty) c.new-pen.ensures.none_sent refl (λ fine. ap (λ n. take n c.finish.new.self.buffer) (c.finish.ensures.empty fine)) c.run_commands-end.ensures.writes.1 c.finish.ensures.writes c.finish.ensures.answer in
    let all_now = rw c.new-pen.ensures.out at all in
    let fits : FitsRoom (g.O.Sink.room c.args.out.now) (g.O.Sink.room c.finish.new.self.out.now) c.finish.result (length whole.text) = subst (λ (r : Report). FitsRoom (g.O.Sink.room c.args.out.now) (g.O.Sink.room c.finish.new.self.out.now) c.finish.result (length r.text)) same all_now.room in
    let told : FitsDrive (g.O.Sink.room c.args.out.now) (g.O.Sink.room c.finish.new.self.out.now) OutFailed (length whole.text) = room_lost (g.O.Sink.room c.args.out.now) (g.O.Sink.room c.finish.new.self.out.now) c.in-Err.field-0 (length whole.text) (rw c.in-Err.is at fits) in
    search rules
