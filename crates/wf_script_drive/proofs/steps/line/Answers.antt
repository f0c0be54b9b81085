use Rattle.wf_bufs.specs.EngineLaw.{steps_of}
use Rattle.wf_bufs.specs.HostSeen.{host_of}
use Rattle.wf_script_drive.proofs.ReportLaws.{line_written}
use Rattle.wf_script_drive.proofs.steps.line.Goals as goal

pub returns-clause-writes : goal.returns-clause-writes
returns-clause-writes g c =
    let engine = g.E.Engine in
    line_written g.P.Pen.writes c.args.pen.now c.words.new.pen c.perform-step.new.pen c.write.new.self (steps_of engine.surface engine.init_gives engine.call_gives) c.args.context.now.surface.now c.args.context.now.declared.now (engine.state c.args.engine.now) (engine.state c.perform-step.new.engine) (host_of c.args.host.now) (host_of c.perform-step.new.host) c.args.one.now c.perform-step.result g.met.P.Pen.joined (rw (← c.one.view_is) c.words.ensures.writes) (rw (← c.one.view_is) c.perform-step.ensures.responds) c.write.ensures.writes
