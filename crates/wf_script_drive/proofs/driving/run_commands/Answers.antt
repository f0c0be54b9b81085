use Rattle.std.proofs.Common.{refl, sym, ap, ◌∷◌, drop, length, arith, ◌≤◌, ◌<◌, ◌+◌, ◌∙◌}
use Rattle.std.proofs.lemmas.List.{drop_all}
use Rattle.pens.proofs.Progress.{unroll}
use Rattle.wf_bufs.specs.EngineLaw.{steps_of}
use Rattle.wf_bufs.specs.HostSeen.{host_of}
use Rattle.wf_script_drive.proofs.ReportLaws.{reach_first, reach_done, line_on, nothing_left}
use Rattle.wf_script_drive.proofs.driving.run_commands.Goals as goal

pub loop-one-init : goal.loop-one-init
loop-one-init g c = record { ready = c.requires.ready; goes_on = c.requires.goes_on; surface = c.requires.surface; receivers = refl; buffers = refl; arrays = refl; reaches = reach_first g.P.Pen.writes _ c.args.pen.now (g.met.P.Pen.nothing c.args.pen.now c.requires.ready) }

pub loop-one-preserved : goal.loop-one-preserved
loop-one-preserved g c =
    let engine = g.E.Engine in
    let within : c.loop-one.one-index < length c.args.commands.now = c.loop-one-test.true in
    let item = unroll c.args.commands.now c.loop-one.one-index c.one-item.result within ∙ ap (λ one. one ∷ drop (c.loop-one.one-index + 1) c.args.commands.now) (sym c.one-item.is) in
    record {
      ready = c.in-GoesOn.ensures.ready;
      goes_on = c.in-GoesOn.ensures.stopped;
      surface = c.in-GoesOn.ensures.surface ∙ c.loop-one.invariant.surface;
      receivers = c.in-GoesOn.ensures.receivers ∙ c.loop-one.invariant.receivers;
      buffers = c.in-GoesOn.ensures.counts.0 ∙ c.loop-one.invariant.buffers;
      arrays = c.in-GoesOn.ensures.counts.1 ∙ c.loop-one.invariant.arrays;
      reaches = line_on g.P.Pen.writes _ c.args.pen.now c.loop-one.pen c.line.new.pen (steps_of engine.surface engine.init_gives engine.call_gives) c.args.context.now.surface.now c.args.context.now.declared.now (engine.state c.loop-one.engine) (engine.state c.line.new.engine) (host_of c.loop-one.host) (host_of c.line.new.host) c.one-item.result (drop (c.loop-one.one-index + 1) c.args.commands.now) (drop c.loop-one.one-index c.args.commands.now) g.met.P.Pen.joined c.loop-one.invariant.reaches item c.in-GoesOn.ensures.writes;
    }

pub returns-clause-writes : goal.returns-clause-writes
returns-clause-writes g c =
    let engine = g.E.Engine in
    let over : length c.args.commands.now ≤ c.loop-one.one-index = omega arith in
    (reach_done g.P.Pen.writes _ _ _ _ c.loop-one.invariant.reaches (nothing_left (steps_of engine.surface engine.init_gives engine.call_gives) c.args.context.now.surface.now c.args.context.now.declared.now (engine.state c.loop-one.engine) (host_of c.loop-one.host) (drop c.loop-one.one-index c.args.commands.now) (drop_all c.loop-one.one-index c.args.commands.now over))).0

pub returns-clause-end : goal.returns-clause-end
returns-clause-end g c =
    let engine = g.E.Engine in
    let over : length c.args.commands.now ≤ c.loop-one.one-index = omega arith in
    (reach_done g.P.Pen.writes _ _ _ _ c.loop-one.invariant.reaches (nothing_left (steps_of engine.surface engine.init_gives engine.call_gives) c.args.context.now.surface.now c.args.context.now.declared.now (engine.state c.loop-one.engine) (host_of c.loop-one.host) (drop c.loop-one.one-index c.args.commands.now) (drop_all c.loop-one.one-index c.args.commands.now over))).1
