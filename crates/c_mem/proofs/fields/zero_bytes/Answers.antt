use Rattle.std.proofs.Common.{arith, slice_index_or}
use Rattle.std.proofs.lemmas.List.{get_or_default}
use Rattle.std.proofs.lemmas.List.Edits.{map_over_more}
use Rattle.c_mem.proofs.fields.zero_bytes.Goals as goal

pub loop-byte-preserved : goal.loop-byte-preserved
loop-byte-preserved c =
    map_over_more (λ _. 0) c.args.them.now c.loop-byte.them c.loop-byte.byte-index
    (slice_index_or c.loop-byte.them c.loop-byte.byte-index 0) (omega arith) c.loop-byte.invariant
    (get_or_default c.loop-byte.them c.loop-byte.byte-index 0 (slice_index_or c.loop-byte.them c.loop-byte.byte-index 0) (omega arith))
