use Rattle.std.proofs.Common.{arith, slice_index_or}
use Rattle.std.proofs.lemmas.List.{get_or_default}
use Rattle.std.proofs.lemmas.List.Edits.{map_over_more}
use Rattle.c_meaning.specs.CMemory.{zero_field}
use Rattle.c_mem.proofs.objects.Object.zero.Goals as goal

pub loop-field-preserved : goal.loop-field-preserved
loop-field-preserved c = rw c.zero.ensures
    (map_over_more zero_field c.deref_mut-field-items.result.now c.loop-field.field-items c.loop-field.field-index
    (slice_index_or c.loop-field.field-items c.loop-field.field-index c.field-item.result) (omega arith) c.loop-field.invariant
    (get_or_default c.loop-field.field-items c.loop-field.field-index c.field-item.result (slice_index_or c.loop-field.field-items c.loop-field.field-index c.field-item.result) (omega arith)))
