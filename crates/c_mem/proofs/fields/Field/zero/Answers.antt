use Rattle.std.proofs.Common.{rules, ap, refl, ◌∙◌, ℕ, List, map, true}
use Rattle.std.proofs.lemmas.List.{with_items_is, places}
use Rattle.c_meaning.specs.declared.cells.Cell.{Cell}
use Rattle.c_meaning.specs.declared.cells.CellType.TheVariants.{U8 as u8}
use Rattle.c_meaning.specs.CMemory.{cells}
use Rattle.c_mem.specs.FieldViews.{byte_cells}
use Rattle.c_mem.proofs.Bytes.{zeroes}
use Rattle.c_mem.proofs.fields.Field.zero.Goals.{in-Cells, in-Bytes, in-Part}
use Rattle.c_mem.proofs.fields.Field.zero.Goals as goal

pub returns : goal.returns
returns c = elim c.match-self.branch [
  | in-Cells w ↦ rw (w.self-inside-is, ← c.self.view_is, w.in-Cells.is)
      (ap (λ (xs : List Cell). cells w.in-Cells.ty xs) (with_items_is w.in-Cells.cells w.fill.new.cells (search (rules, places)) ∙ (w.fill.ensures
      ∙ (ap (map (λ _. w.zero_cell.result)) w.as_mut_slice.ensures.value ∙ ap (λ (z : Cell). map (λ _. z) w.in-Cells.cells.items) w.zero_cell.ensures))))
  | in-Bytes w ↦ rw (w.self-inside-is, ← c.self.view_is, w.in-Bytes.is)
      (ap (λ (xs : List ℕ). cells u8 (byte_cells xs true)) (with_items_is w.in-Bytes.them w.zero_bytes.new.them (search (rules, places)) ∙ (w.zero_bytes.ensures ∙ ap (map (λ _. 0)) w.as_mut_slice-in-Bytes.ensures.value))
      ∙ ap (cells u8) (zeroes w.in-Bytes.them.items w.in-Bytes.set))
  | in-Part w ↦ rw (w.self-inside-is, ← c.self.view_is, w.in-Part.is) refl
]
