use Rattle.std.proofs.Common.{◌<◌, length, ◌∙◌, take}
use Rattle.std.proofs.lemmas.List.{take_more}
use Rattle.pens.specs.PenLaws.{writes_joined}
use Rattle.pens.proofs.writing.SinkPen.write_bytes.Goals as goal

pub loop-byte-preserved : goal.loop-byte-preserved
loop-byte-preserved g c =
    let within : c.loop-byte.byte-index < length c.args.piece.now = c.loop-byte-test.true in
    record {
      same = c.write_byte.ensures.same ∙ c.loop-byte.invariant.same;
      filled = c.write_byte.ensures.filled;
      sent = c.write_byte.ensures.sent;
      countable = c.write_byte.ensures.countable;
      writes = rw (take_more c.args.piece.now c.loop-byte.byte-index 0 within) (writes_joined _ _ _ (take c.loop-byte.byte-index c.args.piece.now) _ c.loop-byte.invariant.writes c.write_byte.ensures.writes);
    }
