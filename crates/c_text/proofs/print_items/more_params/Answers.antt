use Rattle.std.proofs.Common.{◌<◌, length, ap}
use Rattle.pens.proofs.Progress.{goes_on, unroll}
use Rattle.c_text.proofs.Parts.{params_written, no_param, params_rest}
use Rattle.c_text.proofs.print_items.more_params.Goals as goal

pub loop-one-preserved : goal.loop-one-preserved
loop-one-preserved g c =
    let within : c.loop-one.one-index < length c.args.params.now = c.loop-one-test.true in
    let writes = g.met.P.Pen.joined _ _ _ _ _ c.write.ensures.writes c.param.ensures.writes in
    record {
      ready = c.param.ensures.ready;
      has = params_rest c.args.u.now c.args.params.now c.loop-one.one-index within c.loop-one.invariant.has;
      so_far = goes_on g.P.Pen.writes (params_written c.args.u.now) c.args.params.now _ _ _ c.loop-one.one-index _ (λ x y a b. g.met.P.Pen.joined _ _ _ x y a b) c.loop-one.invariant.so_far (ap (params_written c.args.u.now) (unroll c.args.params.now c.loop-one.one-index no_param within)) writes;
    }
