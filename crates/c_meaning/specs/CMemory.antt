-- The memory of C: objects, their fields and the cells of these (ISO/IEC 9899:1999, 6.2.4, 6.5.2, 6.5.6, 7.21). An
-- object is named by its number. What isn't defined answers None.
use Rattle.std.specs.Prelude.{ℕ, ◌+◌, ◌/◌, ◌%◌, ◌^◌, Bool, true, false, ◌&&◌, if◌then◌else◌, nat_eq, nat_lt, nat_le, List, [], ◌∷◌, ◌++◌, length, map, take, drop, slice_get, slice_set, slice_range, Option, Some, None, option_map, option_and_then, unwrap_or, ℤ, pos, negsuc, ◌+ℤ◌}
use Rattle.std.specs.List.{list_any, list_all}
use Rattle.wf_num.specs.declared.c_arithmetic.CTy.TheVariants.{Int, U32, U64}
use Rattle.wf_num.specs.CArithmetic.{modulo}
use Rattle.c_meaning.specs.CValues.{number, whole, is_nonzero, Pointer, CValue, numeric, address, null_pointer}
pub use Rattle.c_meaning.specs.declared.cells.CellType.{CellType}
pub use Rattle.c_meaning.specs.declared.cells.CellType.TheVariants.{U8 as u8, U16 as u16, U32 as u32, U64 as u64, Flag as flag, Pointer as pointer}
pub use Rattle.c_meaning.specs.declared.cells.Cell.{Cell}
pub use Rattle.c_meaning.specs.declared.cells.Cell.TheVariants.{Num as num, Null as null, At as at, Unset as unset}

-- A field has cells of one type, or holds an object of its own, which is inside this one and has a greater
-- number (6.2.5p20).
pub data Field : Type 0 where
  cells : CellType → List Cell → Field
  part : (object : ℕ) → Field

-- An object is its fields in order (6.2.5p20, 6.7.2.1p13).
abbrev pub Object : Type 0
Object = List Field

-- Each object's number is its place (6.2.4).
abbrev pub Memory : Type 0
Memory = List Object

-- How many bits a number's cell has, and how many bytes. Nothing says how many bytes a flag or a pointer
-- has (7.18.1.1).
abbrev pub bits_of : CellType → Option ℕ
bits_of u8 = Some 8
bits_of u16 = Some 16
bits_of u32 = Some 32
bits_of u64 = Some 64
bits_of flag = None
bits_of pointer = None

-- The same in bytes (6.5.3.4, 7.18.1.1).
abbrev pub bytes_of : CellType → Option ℕ
bytes_of type = option_map (λ bits. bits / 8) (bits_of type)

-- What a cell of a type holds once a value is assigned to it, with the conversion that this makes (6.3.1.2, 6.3.1.3,
-- 6.3.2.3p3, 6.5.16.1p2). A number assigned to a pointer is the literal 0.
abbrev pub cell_of : CellType → CValue → Option Cell
cell_of u8 (numeric n) = Some (num (modulo (whole n) (2 ^ 8)))
cell_of u16 (numeric n) = Some (num (modulo (whole n) (2 ^ 16)))
cell_of u32 (numeric n) = Some (num (modulo (whole n) (2 ^ 32)))
cell_of u64 (numeric n) = Some (num (modulo (whole n) (2 ^ 64)))
cell_of flag (numeric n) = Some (num (if is_nonzero n then 1 else 0))
cell_of pointer (numeric n) = Some null
cell_of pointer null_pointer = Some null
cell_of pointer (address p) = Some (at p)
cell_of type v = None

-- The value of a cell, promoted (6.3.1.1p2). An unset one has none (6.3.2.1p2, 6.7.8p10).
abbrev pub value_of : CellType → Cell → Option CValue
value_of type unset = None
value_of u32 (num n) = Some (numeric (number U32 n))
value_of u64 (num n) = Some (numeric (number U64 n))
value_of pointer (num n) = None
value_of type (num n) = Some (numeric (number Int n))
value_of pointer null = Some null_pointer
value_of pointer (at p) = Some (address p)
value_of type cell = None

-- The field with this number (6.5.2.3).
abbrev pub field_at : Memory → (object field : ℕ) → Option Field
field_at memory object field = option_and_then (λ fields. slice_get fields field) (slice_get memory object)

-- The type of a field's cells, and the cells (6.5.2.1).
abbrev pub cells_of : Field → Option (CellType × List Cell)
cells_of (cells type them) = Some (type, them)
cells_of (part object) = None

-- The same of a field of memory (6.5.2.1).
abbrev pub cells_at : Memory → (object field : ℕ) → Option (CellType × List Cell)
cells_at memory object field = option_and_then cells_of (field_at memory object field)

-- The cell that a pointer names, with its type (6.5.3.2p4).
abbrev pub cell_at : Memory → Pointer → Option (CellType × Cell)
cell_at memory p = option_and_then (λ found. option_map (λ cell. (found.0, cell)) (slice_get found.1 p.index)) (cells_at memory p.object p.field)

-- The object inside that a field holds (6.5.2.3).
abbrev pub part_of : Field → Option ℕ
part_of (cells type them) = None
part_of (part object) = Some object

-- The same of a field of memory (6.5.2.3).
abbrev pub part_at : Memory → (object field : ℕ) → Option ℕ
part_at memory object field = option_and_then part_of (field_at memory object field)

-- Reading a cell; undefined outside the field, and where the cell is unset (6.3.2.1p2, 6.5.3.2p4).
abbrev pub set_cell : Cell → Option Cell
set_cell unset = None
set_cell cell = Some cell

-- The cell that a pointer names, where it is set (6.5.3.2p4).
abbrev pub load : Memory → Pointer → Option Cell
load memory p = option_and_then (λ found. set_cell found.1) (cell_at memory p)

-- The value of that cell (6.3.2.1p2, 6.5.3.2p4).
abbrev pub loaded : Memory → Pointer → Option CValue
loaded memory p = option_and_then (λ found. value_of found.0 found.1) (cell_at memory p)

-- Memory with another field in place of one (6.2.4).
abbrev pub object_at : Memory → (object : ℕ) → Object
object_at memory object = unwrap_or (slice_get memory object) []

-- Memory with a field that has changed (6.2.4).
abbrev pub with_field : (object field : ℕ) → Field → Memory → Memory
with_field object field now memory = slice_set memory object (slice_set (object_at memory object) field now)

-- Writing a cell; undefined outside the field (6.5.3.2p4).
abbrev pub written : Memory → Pointer → Cell → CellType × List Cell → Option Memory
written memory p cell found = if nat_lt p.index (length found.1) then Some (with_field p.object p.field (cells found.0 (slice_set found.1 p.index cell)) memory) else None

-- The same at the cell that a pointer names (6.5.3.2p4).
abbrev pub store : Memory → Pointer → Cell → Option Memory
store memory p cell = option_and_then (written memory p cell) (cells_at memory p.object p.field)

-- Assignment of a value to the cell that a pointer names (6.5.16.1p2).
abbrev pub stored : Memory → Pointer → CValue → Option Memory
stored memory p v = option_and_then (λ cell. store memory p cell) (option_and_then (λ found. cell_of found.0 v) (cell_at memory p))

-- A pointer moved by so many cells; undefined outside the field and one past it (6.5.6p8).
abbrev pub within : ℕ → ℤ → Option ℕ
within most (pos n) = if nat_le n most then Some n else None
within most (negsuc n) = None

-- The same, where a field has so many cells (6.5.6p8).
abbrev pub moved_in : ℕ → Pointer → ℤ → Option Pointer
moved_in most p z = option_map (λ index. record p { index = index }) (within most (pos p.index +ℤ z))

-- The same in memory (6.5.6p8).
abbrev pub offset : Memory → Pointer → ℤ → Option Pointer
offset memory p z = option_and_then (λ found. moved_in (length found.1) p z) (cells_at memory p.object p.field)

-- A pointer to a whole object counts as one to the only element of an array (6.5.6p7).
abbrev pub offset_object : Pointer → ℤ → Option Pointer
offset_object p z = moved_in 1 p z

-- `memmove` (7.21.2.2): `bytes` bytes, which are whole cells that are set, come to stand at `to`, as they were before.
-- Undefined beyond a field, at a part of a cell, and between cells of different types, but for 0 bytes.
abbrev pub is_set : Cell → Bool
is_set unset = false
is_set cell = true

-- Cells of one type (6.2.6.1).
abbrev pub same_type : CellType → CellType → Bool
same_type u8 u8 = true
same_type u16 u16 = true
same_type u32 u32 = true
same_type u64 u64 = true
same_type flag flag = true
same_type pointer pointer = true
same_type a b = false

-- How many cells of a type so many bytes are (7.21.2.2).
abbrev pub whole_cells : CellType → ℕ → Option ℕ
whole_cells type bytes = option_and_then (λ size. if nat_eq (bytes % size) 0 then Some (bytes / size) else None) (bytes_of type)

-- So many whole cells are copied (7.21.2.2).
abbrev pub copied : Memory → (to from : Pointer) → (count : ℕ) → (target source : CellType × List Cell) → Option Memory
copied memory to from count target source =
    if same_type target.0 source.0 && (nat_le (from.index + count) (length source.1) && (nat_le (to.index + count) (length target.1) && list_all is_set (slice_range source.1 from.index (from.index + count))))
    then Some (with_field to.object to.field (cells target.0 (take to.index target.1 ++ (slice_range source.1 from.index (from.index + count) ++ drop (to.index + count) target.1))) memory)
    else None

-- A place in a field, or one past it (6.5.6p8, 7.21.1p2).
abbrev pub exists : CellType × List Cell → ℕ → Bool
exists found index = nat_le index (length found.1)

-- So many bytes; 0 bytes ask for two places that are there (7.21.1p2, 7.21.2.2).
abbrev pub moved : Memory → (to from : Pointer) → (bytes : ℕ) → (target source : CellType × List Cell) → Option Memory
moved memory to from bytes target source =
    if nat_eq bytes 0
    then (if exists target to.index && exists source from.index then Some memory else None)
    else option_and_then (λ count. copied memory to from count target source) (whole_cells source.0 bytes)

-- `memmove` in memory (7.21.2.2).
abbrev pub move_bytes : Memory → (to from : Pointer) → (bytes : ℕ) → Option Memory
move_bytes memory to from bytes = option_and_then (λ target. option_and_then (λ source. moved memory to from bytes target source) (cells_at memory from.object from.field)) (cells_at memory to.object to.field)

-- `memset` of a whole object with 0 (7.21.6.1): numbers become zero, flags false and pointers null, and so it is
-- with every object inside. The objects inside have greater numbers, so all are met in one pass.
abbrev pub zero_cell : CellType → Cell
zero_cell pointer = null
zero_cell type = num 0

-- The same of a field (7.21.6.1).
abbrev pub zero_field : Field → Field
zero_field (cells type them) = cells type (map (λ _. zero_cell type) them)
zero_field (part object) = part object

-- The objects inside an object (6.2.5p20).
abbrev pub parts_of : Object → List ℕ
parts_of [] = []
parts_of (cells type them ∷ fields) = parts_of fields
parts_of (part object ∷ fields) = object ∷ parts_of fields

-- One of these numbers (7.21.6.1).
abbrev pub contains : List ℕ → ℕ → Bool
contains numbers k = list_any (nat_eq k) numbers

-- The same of all objects that are wanted, from one on (7.21.6.1).
abbrev pub zeroed_from : (number : ℕ) → (wanted : List ℕ) → Memory → Memory
zeroed_from number wanted [] = []
zeroed_from number wanted (object ∷ objects) =
    (if contains wanted number then map zero_field object else object) ∷ zeroed_from (number + 1) (if contains wanted number then parts_of object ++ wanted else wanted) objects

-- `memset` of an object with all that is inside it (7.21.6.1).
abbrev pub zeroed : Memory → (object : ℕ) → Option Memory
zeroed memory object = if nat_lt object (length memory) then Some (zeroed_from 0 (object ∷ []) memory) else None
