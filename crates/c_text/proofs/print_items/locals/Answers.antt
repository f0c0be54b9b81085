use Rattle.std.proofs.Common.{◌<◌, length, ap}
use Rattle.pens.proofs.Progress.{goes_on, unroll}
use Rattle.c_text.proofs.Parts.{locals_written, no_local, locals_rest}
use Rattle.c_text.proofs.print_items.locals.Goals as goal

pub loop-one-preserved : goal.loop-one-preserved
loop-one-preserved g c =
    let within : c.loop-one.one-index < length c.args.locals.now = c.loop-one-test.true in
    record {
      ready = c.local.ensures.ready;
      has = locals_rest c.args.u.now c.args.locals.now c.loop-one.one-index within c.loop-one.invariant.has;
      so_far = goes_on g.P.Pen.writes (locals_written c.args.u.now) c.args.locals.now _ _ _ c.loop-one.one-index _ (λ x y a b. g.met.P.Pen.joined _ _ _ x y a b) c.loop-one.invariant.so_far (ap (locals_written c.args.u.now) (unroll c.args.locals.now c.loop-one.one-index no_local within)) c.local.ensures.writes;
    }
