use Rattle.std.proofs.Common.{◌<◌, length, ap}
use Rattle.pens.proofs.Progress.{goes_on, unroll}
use Rattle.c_text.proofs.Parts.{fields_written, no_field, fields_rest}
use Rattle.c_text.proofs.print_items.fields.Goals as goal

pub loop-one-preserved : goal.loop-one-preserved
loop-one-preserved g c =
    let within : c.loop-one.one-index < length c.args.fields.now = c.loop-one-test.true in
    record {
      ready = c.field.ensures.ready;
      has = fields_rest c.args.u.now c.args.fields.now c.loop-one.one-index within c.loop-one.invariant.has;
      so_far = goes_on g.P.Pen.writes (fields_written c.args.u.now) c.args.fields.now _ _ _ c.loop-one.one-index _ (λ x y a b. g.met.P.Pen.joined _ _ _ x y a b) c.loop-one.invariant.so_far (ap (fields_written c.args.u.now) (unroll c.args.fields.now c.loop-one.one-index no_field within)) c.field.ensures.writes;
    }
