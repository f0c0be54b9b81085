use Rattle.std.proofs.Common.{◌∙◌, ap}
use Rattle.wf_text.specs.Surface.{Surface}
use Rattle.wf_base.specs.HostRun.{answers}
use Rattle.wf_bufs.specs.EngineLaw.{response_of}
use Rattle.wf_bufs.specs.HostSeen.{host_of}
use Rattle.wf_bufs.specs.HostViews.{answer_of}
use Rattle.wf_script_drive.proofs.steps.call.Goals as goal

pub returns-in-Done-clause-responds : goal.returns-in-Done-clause-responds
returns-in-Done-clause-responds g c = (
  answer_of c.args.context.now.surface.now c.in-Done.outcome,
  ap (λ gives. response_of (g.E.Engine.surface (g.E.Engine.state c.args.engine.now)) gives) c.in-Done.ensures.law ∙ ap (λ (s : Surface). answers (answer_of s c.in-Done.outcome) (g.E.Engine.state c.call.new.self, host_of c.call.new.bufs)) c.requires.surface,
  g.met.P.Pen.joined _ _ _ _ _ c.answer.ensures.writes (rw c.names.ensures at c.io_args.ensures.writes),
)
