use Rattle.std.proofs.Common.{rules, ap, refl, ◌∙◌, ℕ, List, Bool}
use Rattle.std.proofs.lemmas.List.{with_items_is, places}
use Rattle.c_meaning.specs.declared.cells.Cell.{Cell}
use Rattle.c_meaning.specs.declared.cells.CellType.TheVariants.{U8 as u8}
use Rattle.c_meaning.specs.CMemory.{cells}
use Rattle.c_mem.specs.FieldViews.{byte_cells}
use Rattle.c_mem.specs.Moving.{paste_cells}
use Rattle.c_mem.proofs.Bytes.{copies_bytes, none_from_bytes, none_to_bytes}
use Rattle.c_mem.proofs.fields.Field.paste.Goals.{in-Cells+in-Cells-held, in-Cells+in-Bytes-held, in-Cells+in-Part-held, in-Bytes+in-Bytes-held-2, in-Bytes+in-Cells-held-2, in-Bytes+in-Part-held-2, in-Part}
use Rattle.c_mem.proofs.fields.Field.paste.Goals as goal

pub returns : goal.returns
returns c = elim c.match-self.branch [
  | in-Cells+in-Cells-held w ↦ rw (w.self-inside-is, ← c.self.view_is, ← c.source.view_is, w.in-Cells.is, w.in-Cells-held.is)
      (ap (λ (xs : List Cell). cells w.in-Cells.field-0 xs) (with_items_is w.in-Cells.target w.copy_cells.new.target (search (rules, places)) ∙ (w.copy_cells.ensures
      ∙ (ap (λ (xs : List Cell). paste_cells xs c.args.to w.as_slice.result.now c.args.from c.args.count) w.as_mut_slice.ensures.value
      ∙ ap (λ (ys : List Cell). paste_cells w.in-Cells.target.items c.args.to ys c.args.from c.args.count) w.as_slice.ensures.value))))
  | in-Cells+in-Bytes-held w ↦ (
      let p = rw (← c.self.view_is, ← c.source.view_is, w.in-Cells.is, w.in-Bytes-held.is) at c.requires in
      let i = rw w.in-Cells.is at c.self.invariant in
      rw (w.self-inside-is, ← c.self.view_is, ← c.source.view_is, w.in-Cells.is, w.in-Bytes-held.is)
      (ap (cells w.in-Cells.field-0) (none_from_bytes w.in-Cells.field-0 w.in-Cells.target.items c.args.to (byte_cells w.in-Bytes-held.field-0.items w.in-Bytes-held.field-1) c.args.from c.args.count i p)))
  | in-Cells+in-Part-held w ↦ rw (w.self-inside-is, ← c.self.view_is, ← c.source.view_is, w.in-Cells.is, w.in-Part-held.is) refl
  | in-Bytes+in-Bytes-held-2 w ↦ (
      let p = rw (← c.self.view_is, ← c.source.view_is, w.in-Bytes.is, w.in-Bytes-held-2.is) at c.requires in
      let i = rw w.in-Bytes.is at c.self.invariant in
      rw (w.self-inside-is, ← c.self.view_is, ← c.source.view_is, w.in-Bytes.is, w.in-Bytes-held-2.is)
      (ap (λ (xs : List ℕ). cells u8 (byte_cells xs w.is_set_after.result)) (with_items_is w.in-Bytes.target w.copy_bytes.new.target (search (rules, places)) ∙ (w.copy_bytes.ensures
      ∙ (ap (λ (xs : List ℕ). paste_cells xs c.args.to w.as_slice-in-Bytes-held-2.result.now c.args.from c.args.count) w.as_mut_slice-in-Bytes-held-2.ensures.value
      ∙ ap (λ (ys : List ℕ). paste_cells w.in-Bytes.target.items c.args.to ys c.args.from c.args.count) w.as_slice-in-Bytes-held-2.ensures.value)))
      ∙ (ap (λ (b : Bool). cells u8 (byte_cells (paste_cells w.in-Bytes.target.items c.args.to w.in-Bytes-held-2.them.items c.args.from c.args.count) b)) w.is_set_after.ensures
      ∙ ap (cells u8) (copies_bytes w.in-Bytes.target.items w.in-Bytes.set c.args.to w.in-Bytes-held-2.them.items w.in-Bytes-held-2.field-1 c.args.from c.args.count i p))))
  | in-Bytes+in-Cells-held-2 w ↦ (
      let p = rw (← c.self.view_is, ← c.source.view_is, w.in-Bytes.is, w.in-Cells-held-2.is) at c.requires in
      let i = rw w.in-Cells-held-2.is at c.source.invariant in
      rw (w.self-inside-is, ← c.self.view_is, ← c.source.view_is, w.in-Bytes.is, w.in-Cells-held-2.is)
      (ap (cells u8) (none_to_bytes w.in-Cells-held-2.field-0 (byte_cells w.in-Bytes.target.items w.in-Bytes.set) c.args.to w.in-Cells-held-2.field-1.items c.args.from c.args.count i p)))
  | in-Bytes+in-Part-held-2 w ↦ rw (w.self-inside-is, ← c.self.view_is, ← c.source.view_is, w.in-Bytes.is, w.in-Part-held-2.is) refl
  | in-Part w ↦ rw (w.self-inside-is, ← c.self.view_is, w.in-Part.is) refl
]
