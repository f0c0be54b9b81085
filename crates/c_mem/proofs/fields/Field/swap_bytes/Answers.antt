use Rattle.std.proofs.Common.{ap}
use Rattle.c_meaning.specs.declared.cells.CellType.TheVariants.{U8 as u8}
use Rattle.c_meaning.specs.CMemory.{cells}
use Rattle.c_mem.proofs.Bytes.{set_bytes, no_bytes}
use Rattle.c_mem.proofs.fields.Field.swap_bytes.Goals.{in-Bytes, in-Cells, in-Part}
use Rattle.c_mem.proofs.fields.Field.swap_bytes.Goals as goal

pub returns-clause-was : goal.returns-clause-was
returns-clause-was c = elim c.match-self.branch [
  | in-Bytes w ↦ (let r = rw (← c.self.view_is, w.in-Bytes.is) at c.requires in
      rw (w.bytes-is, w.swap.ensures.y_after, ← c.self.view_is, w.in-Bytes.is) (ap (cells u8) (set_bytes w.in-Bytes.them.items w.in-Bytes.set r)))
  | in-Cells w ↦ (let r = rw (← c.self.view_is, w.in-Cells.is) at c.requires in let i = rw w.in-Cells.is at c.self.invariant in absurd (no_bytes w.in-Cells.field-0 w.in-Cells.field-1.items i r))
  | in-Part w ↦ (let r = rw (← c.self.view_is, w.in-Part.is) at c.requires in absurd (cc (r)))
]
