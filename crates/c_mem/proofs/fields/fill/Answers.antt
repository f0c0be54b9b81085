use Rattle.std.proofs.Common.{arith, slice_index_or}
use Rattle.std.proofs.lemmas.List.{get_or_default}
use Rattle.std.proofs.lemmas.List.Edits.{map_over_more}
use Rattle.c_mem.proofs.fields.fill.Goals as goal

pub loop-cell-preserved : goal.loop-cell-preserved
loop-cell-preserved c =
    map_over_more (λ _. c.args.it) c.args.cells.now c.loop-cell.cells c.loop-cell.cell-index
    (slice_index_or c.loop-cell.cells c.loop-cell.cell-index c.args.it) (omega arith) c.loop-cell.invariant
    (get_or_default c.loop-cell.cells c.loop-cell.cell-index c.args.it (slice_index_or c.loop-cell.cells c.loop-cell.cell-index c.args.it) (omega arith))
