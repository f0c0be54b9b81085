use Rattle.std.proofs.Common.{◌<◌, ◌≤◌, length, arith}
use Rattle.hex.specs.Hex.{encode_lower}
use Rattle.pens.proofs.Progress.{goes_on, done}
use Rattle.wf_script_drive.proofs.HexLaws.{digits_on, digits_over}
use Rattle.wf_script_drive.proofs.printing.digits_of.Goals as goal

pub loop-byte-preserved : goal.loop-byte-preserved
loop-byte-preserved g c =
    let within : c.loop-byte.byte-index < length c.args.bytes.now = c.loop-byte-test.true in
    record {
      ready = c.write.ensures.ready;
      so_far = goes_on g.P.Pen.writes encode_lower c.args.bytes.now _ _ _ c.loop-byte.byte-index _ (λ x y a b. g.met.P.Pen.joined _ _ _ x y a b) c.loop-byte.invariant.so_far (digits_on c.args.bytes.now c.hex_text.new.into c.loop-byte.byte-index within c.hex_text.ensures.digits) c.write.ensures.writes;
    }

pub returns-clause-writes : goal.returns-clause-writes
returns-clause-writes g c =
    let over : length c.args.bytes.now ≤ c.loop-byte.byte-index = omega arith in
    done g.P.Pen.writes encode_lower c.args.bytes.now _ _ c.loop-byte.byte-index c.loop-byte.invariant.so_far (digits_over c.args.bytes.now c.loop-byte.byte-index over)
