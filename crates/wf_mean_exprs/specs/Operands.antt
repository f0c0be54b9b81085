-- What the machine's look-ups and operators answer.
use Rattle.std.specs.Prelude.{ℕ, List, [], ◌∷◌, length, Option, None, Some, option_and_then}
use Rattle.wf_ast.specs.TypedTree.{Arith, NumTree}
use Rattle.wf_ast.specs.Value.{State, Span, applied, value}
use Rattle.wf_mean_exprs.specs.declared.values.SliceStore.TheVariants as stores
use Rattle.wf_mean_exprs.specs.declared.values.Slot.{Slot}
use Rattle.wf_mean_exprs.specs.declared.values.Slot.TheVariants as slots
use Rattle.wf_mean_exprs.specs.declared.objects.FieldState.{FieldState}
use Rattle.wf_mean_exprs.specs.declared.objects.FieldState.TheVariants as fields

-- A chain on from the value of the part so far.
abbrev pub chain_value : State → Arith → (bits : ℕ) → Option ℕ → List NumTree → Option ℕ
chain_value s op bits so_far [] = so_far
chain_value s op bits so_far (t ∷ ts) = chain_value s op bits (option_and_then (λ m. option_and_then (applied op bits m) (value s t)) so_far) ts

-- What stands in a field, as a local would hold it: an array as all of its elements, and a struct state as nothing.
abbrev pub slot_held : (object n : ℕ) → FieldState → Option Slot
slot_held object n (fields.Num m) = Some (slots.Num m)
slot_held object n (fields.Truth b) = Some (slots.Truth b)
slot_held object n (fields.Status s) = Some (slots.Status s)
slot_held object n (fields.Cells cells) = Some (slots.Elements (record { store = stores.FieldArray object n; from = 0; end = length cells.items }))
slot_held object n (fields.Part part) = None

abbrev pub slot_in_field : (object n : ℕ) → Option FieldState → Option Slot
slot_in_field object n None = None
slot_in_field object n (Some held) = slot_held object n held

-- The elements of the array in a field; of what is no array, none.
abbrev pub cells_held : FieldState → List ℕ
cells_held (fields.Cells cells) = cells.items
cells_held held = []

abbrev pub cells_in : Option FieldState → List ℕ
cells_in None = []
cells_in (Some held) = cells_held held

-- How many elements a slice has; one that is stuck, none.
abbrev pub count_or_zero : Option Span → ℕ
count_or_zero None = 0
count_or_zero (Some s) = s.count
