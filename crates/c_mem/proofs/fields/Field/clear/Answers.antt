use Rattle.std.proofs.Common.{rules, ap, refl, ◌∙◌, map, List}
use Rattle.std.proofs.lemmas.List.{with_items_is, places}
use Rattle.c_meaning.specs.declared.cells.Cell.{Cell}
use Rattle.c_meaning.specs.declared.cells.Cell.TheVariants.{Unset as unset}
use Rattle.c_meaning.specs.declared.cells.CellType.TheVariants.{U8 as u8}
use Rattle.c_meaning.specs.CMemory.{cells}
use Rattle.c_mem.proofs.Bytes.{clears}
use Rattle.c_mem.proofs.fields.Field.clear.Goals.{in-Cells, in-Bytes, in-Part}
use Rattle.c_mem.proofs.fields.Field.clear.Goals as goal

pub returns : goal.returns
returns c = elim c.match-self.branch [
  | in-Cells w ↦ rw (w.self-inside-is, ← c.self.view_is, w.in-Cells.is)
      (ap (λ (xs : List Cell). cells w.in-Cells.field-0 xs) (with_items_is w.in-Cells.cells w.fill.new.cells (search (rules, places)) ∙ (w.fill.ensures ∙ ap (map (λ _. unset)) w.as_mut_slice.ensures.value)))
  | in-Bytes w ↦ rw (w.self-inside-is, ← c.self.view_is, w.in-Bytes.is) (ap (cells u8) (clears w.in-Bytes.field-0.items w.in-Bytes.set))
  | in-Part w ↦ rw (w.self-inside-is, ← c.self.view_is, w.in-Part.is) refl
]
