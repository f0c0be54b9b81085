-- What memory is at one object, and at one field: the definitions of `CMemory` for these alone.
use Rattle.std.specs.Prelude.{ℕ, ◌<◌, ◌≤◌, Bool, true, false, ◌&&◌, if◌then◌else◌, nat_lt, [], ◌∷◌, length, map, replicate, slice_get, slice_set, Option, Some, None, option_map, option_and_then, IfSome, All, ℤ, pos, ◌+ℤ◌}
use Rattle.std.specs.List.{list_all}
use Rattle.c_meaning.specs.declared.cells.CellType.{CellType}
use Rattle.c_meaning.specs.declared.cells.CellType.TheVariants.{U8 as u8}
use Rattle.c_meaning.specs.declared.cells.Cell.{Cell}
use Rattle.c_meaning.specs.declared.cells.Cell.TheVariants.{Num as num, Null as null, At as at, Unset as unset}
use Rattle.c_meaning.specs.declared.values.Pointer.{Pointer}
use Rattle.c_meaning.specs.CMemory.{Field, cells, part, Object, Memory, cells_of, part_of, set_cell, within, is_set, field_at}
use Rattle.c_mem.specs.declared.decls.FieldDecl.{FieldDecl}
use Rattle.c_mem.specs.declared.decls.FieldDecl.TheVariants as declares
use Rattle.c_mem.specs.declared.decls.ObjDecl.{ObjDecl}

-- The cell of a field, with its type.
abbrev pub cell_in : Field → ℕ → Option (CellType × Cell)
cell_in field index = option_and_then (λ found. option_map (λ cell. (found.0, cell)) (slice_get found.1 index)) (cells_of field)

-- The same where it is set.
abbrev pub load_in : Field → ℕ → Option Cell
load_in field index = option_and_then (λ found. set_cell found.1) (cell_in field index)

-- A field with another cell in place of one.
abbrev pub stored_in : Field → ℕ → Cell → Option Field
stored_in (cells type them) index cell = if nat_lt index (length them) then Some (cells type (slice_set them index cell)) else None
stored_in (part object) index cell = None

-- An index moved by so many cells.
abbrev pub moved_index : Field → ℕ → ℤ → Option ℕ
moved_index field index z = option_and_then (λ found. within (length found.1) (pos index +ℤ z)) (cells_of field)

-- The same at one field of an object.
abbrev pub cell_at_field : Object → (field index : ℕ) → Option (CellType × Cell)
cell_at_field object field index = option_and_then (λ it. cell_in it index) (slice_get object field)

abbrev pub load_at_field : Object → (field index : ℕ) → Option Cell
load_at_field object field index = option_and_then (λ it. load_in it index) (slice_get object field)

abbrev pub part_at_field : Object → (field : ℕ) → Option ℕ
part_at_field object field = option_and_then part_of (slice_get object field)

abbrev pub moved_at_field : Object → (field index : ℕ) → ℤ → Option ℕ
moved_at_field object field index z = option_and_then (λ it. moved_index it index z) (slice_get object field)

abbrev pub stored_at_field : Object → (field index : ℕ) → Cell → Option Object
stored_at_field object field index cell = option_and_then (λ it. option_map (λ now. slice_set object field now) (stored_in it index cell)) (slice_get object field)

-- The type of bytes.
abbrev pub is_byte : CellType → Bool
is_byte u8 = true
is_byte type = false

-- A cell that a field can hold: one of `uint8_t` holds a byte.
abbrev pub IsByte : Cell → Type 0
IsByte (num n) = n < 256
IsByte null = ⊥
IsByte (at p) = ⊥
IsByte unset = ⊥

abbrev pub Fits : CellType → Cell → Type 0
Fits u8 cell = IsByte cell
Fits type cell = Unit {0}

abbrev pub FitsField : Field → Cell → Type 0
FitsField (cells type them) cell = Fits type cell
FitsField (part object) cell = Unit {0}

abbrev pub FitsObject : Object → (field : ℕ) → Cell → Type 0
FitsObject object field cell = IfSome (slice_get object field) (λ it. FitsField it cell)

abbrev pub FitsPlace : Memory → Pointer → Cell → Type 0
FitsPlace memory p cell = IfSome (field_at memory p.object p.field) (λ it. FitsField it cell)

-- No bytes, or one.
abbrev pub IsSmall : Field → Type 0
IsSmall (cells u8 them) = length them ≤ 1
IsSmall (cells type them) = Unit {0}
IsSmall (part object) = Unit {0}

abbrev pub AreSmall : Object → Type 0
AreSmall object = All IsSmall object

-- One field of bytes, all set.
abbrev pub are_bytes : Field → Bool
are_bytes (cells type them) = is_byte type && list_all is_set them
are_bytes (part object) = false

abbrev pub has_bytes : Object → Bool
has_bytes [] = false
has_bytes (field ∷ []) = are_bytes field
has_bytes (field ∷ another ∷ others) = false

-- A field and an object as they are declared: cells are unset, but two bytes or more are 0.
abbrev pub declared_cell : CellType → (count : ℕ) → Cell
declared_cell type count = if nat_lt 1 count && is_byte type then num 0 else unset

abbrev pub declared_field : FieldDecl → Field
declared_field (declares.Cells type count) = cells type (replicate count (declared_cell type count))
declared_field (declares.Part object) = part object

abbrev pub declared_object : ObjDecl → Object
declared_object decl = map declared_field decl.fields.items

-- A field whose cells are all unset.
abbrev pub unset_field : Field → Field
unset_field (cells type them) = cells type (map (λ _. unset) them)
unset_field (part object) = part object
