use Rattle.std.proofs.Common.{rules, ap, refl, ◌∙◌, ℕ, ◌+◌, List}
use Rattle.std.specs.List.{copy_within}
use Rattle.std.proofs.lemmas.List.{with_items_is, places}
use Rattle.c_meaning.specs.declared.cells.Cell.{Cell}
use Rattle.c_meaning.specs.declared.cells.CellType.TheVariants.{U8 as u8}
use Rattle.c_meaning.specs.CMemory.{cells}
use Rattle.c_mem.specs.FieldViews.{byte_cells}
use Rattle.c_mem.proofs.Bytes.{pastes_within}
use Rattle.c_mem.proofs.Moved.{within_cells}
use Rattle.c_mem.proofs.fields.Field.paste_within.Goals.{in-Cells, in-Bytes, in-Part}
use Rattle.c_mem.proofs.fields.Field.paste_within.Goals as goal

pub returns : goal.returns
returns c = elim c.match-self.branch [
  | in-Cells w ↦ rw (w.self-inside-is, ← c.self.view_is, w.in-Cells.is)
      (ap (λ (xs : List Cell). cells w.in-Cells.field-0 xs) (with_items_is w.in-Cells.cells w.copy_within.new.self (search (rules, places)) ∙ (w.copy_within.ensures.after
      ∙ (ap (λ (xs : List Cell). copy_within xs c.args.from (c.args.from + c.args.count) c.args.to) w.as_mut_slice.ensures.value ∙ within_cells w.in-Cells.cells.items c.args.to c.args.from c.args.count))))
  | in-Bytes w ↦ rw (w.self-inside-is, ← c.self.view_is, w.in-Bytes.is)
      (ap (λ (xs : List ℕ). cells u8 (byte_cells xs w.in-Bytes.field-1)) (with_items_is w.in-Bytes.them w.copy_within-in-Bytes.new.self (search (rules, places)) ∙ (w.copy_within-in-Bytes.ensures.after
      ∙ ap (λ (xs : List ℕ). copy_within xs c.args.from (c.args.from + c.args.count) c.args.to) w.as_mut_slice-in-Bytes.ensures.value))
      ∙ ap (cells u8) (pastes_within w.in-Bytes.them.items w.in-Bytes.field-1 c.args.to c.args.from c.args.count))
  | in-Part w ↦ rw (w.self-inside-is, ← c.self.view_is, w.in-Part.is) refl
]
