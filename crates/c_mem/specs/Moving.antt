-- `memmove` at one field, and at one object: the definitions of `CMemory` for these alone.
use Rattle.std.specs.Prelude.{◌≡◌, ◌⊎◌, ℕ, ◌+◌, ◌≤◌, Bool, true, false, ◌&&◌, if◌then◌else◌, nat_eq, nat_le, List, ◌++◌, length, take, drop, slice_get, slice_set, slice_range, Option, Some, None, option_map, option_and_then}
use Rattle.std.specs.List.{list_all}
use Rattle.c_meaning.specs.declared.cells.CellType.{CellType}
use Rattle.c_meaning.specs.declared.cells.Cell.{Cell}
use Rattle.c_meaning.specs.declared.values.Pointer.{Pointer}
use Rattle.c_meaning.specs.CMemory.{Field, cells, part, Object, Memory, field_at, same_type, is_set, whole_cells}

-- How many cells so many bytes are that may be moved; None where `memmove` isn't defined.
abbrev pub counted : (type : CellType) → (target : List Cell) → (to : ℕ) → (source_type : CellType) → (source : List Cell) → (from bytes : ℕ) → Option ℕ
counted type target to source_type source from bytes =
    if nat_eq bytes 0
    then (if nat_le to (length target) && nat_le from (length source) then Some 0 else None)
    else option_and_then (λ count. if same_type type source_type && (nat_le (from + count) (length source) && (nat_le (to + count) (length target) && list_all is_set (slice_range source from (from + count)))) then Some count else None) (whole_cells source_type bytes)

abbrev pub count_moved : (target : Field) → (to : ℕ) → (source : Field) → (from bytes : ℕ) → Option ℕ
count_moved (cells type target) to (cells source_type source) from bytes = counted type target to source_type source from bytes
count_moved (cells type target) to (part object) from bytes = None
count_moved (part object) to source from bytes = None

-- So many cells of one list in another.
abbrev pub paste_cells : {A : Type 0} → (target : List A) → (to : ℕ) → (source : List A) → (from count : ℕ) → List A
paste_cells target to source from count = take to target ++ (slice_range source from (from + count) ++ drop (to + count) target)

abbrev pub pasted : (target : Field) → (to : ℕ) → (source : Field) → (from count : ℕ) → Field
pasted (cells type target) to (cells source_type source) from count = cells type (paste_cells target to source from count)
pasted (cells type target) to (part object) from count = cells type target
pasted (part object) to source from count = part object

-- They are there, and so is their place; and they are set and of its type, or there are none.
pub record PastesCells (type : CellType) (target : List Cell) (to : ℕ) (source_type : CellType) (source : List Cell) (from count : ℕ) : Type 0 where
  pub fits : to + count ≤ length target
  pub within : from + count ≤ length source
  pub all_set : (count ≡ 0) ⊎ ((same_type type source_type ≡ true) × (list_all is_set (slice_range source from (from + count)) ≡ true))

abbrev pub PastesIn : (target : Field) → (to : ℕ) → (source : Field) → (from count : ℕ) → Type 0
PastesIn (cells type target) to (cells source_type source) from count = PastesCells type target to source_type source from count
PastesIn (cells type target) to (part object) from count = Unit {0}
PastesIn (part object) to source from count = Unit {0}

-- `memmove` to a field, and within a field of an object.
abbrev pub moved_field : (target : Field) → (to : ℕ) → (source : Field) → (from bytes : ℕ) → Option Field
moved_field target to source from bytes = option_map (pasted target to source from) (count_moved target to source from bytes)

abbrev pub moved_at : Object → (field to from bytes : ℕ) → Option Object
moved_at object field to from bytes = option_and_then (λ it. option_map (λ now. slice_set object field now) (moved_field it to it from bytes)) (slice_get object field)

-- The same from a field of memory.
abbrev pub moved_from : (target : Field) → (to : ℕ) → Memory → (from : Pointer) → (bytes : ℕ) → Option Field
moved_from target to memory from bytes = option_and_then (λ source. moved_field target to source from.index bytes) (field_at memory from.object from.field)

-- Two pointers lead to one field.
abbrev pub same_field : Pointer → Pointer → Bool
same_field p q = nat_eq p.object q.object && nat_eq p.field q.field

-- A field is swapped for another one, where it is there.
abbrev pub Swaps : (old : Object) → (field : ℕ) → (given : Field) → Bool → (new : Object) → (taken : Field) → Type 0
Swaps old field given true new taken = (slice_get old field ≡ Some taken) × (new ≡ slice_set old field given)
Swaps old field given false new taken = (slice_get old field ≡ None) × ((new ≡ old) × (taken ≡ given))
