-- A field of a machine's memory as a field of memory.
use Rattle.std.specs.Prelude.{◌≡◌, ℕ, ◌≤◌, Bool, true, false, List, length, map}
use Rattle.c_meaning.specs.declared.cells.Cell.{Cell}
use Rattle.c_meaning.specs.declared.cells.CellType.TheVariants.{U8 as u8}
use Rattle.c_meaning.specs.declared.cells.Cell.TheVariants.{Num as num, Unset as unset}
use Rattle.c_meaning.specs.CMemory.{Field, cells, part}
use Rattle.c_mem.specs.FieldParts.{is_byte}
use Rattle.c_mem.specs.declared.fields.Held.{Held}
use Rattle.c_mem.specs.declared.fields.Held.TheVariants.{Cells, Bytes, Part}

-- A cell that is kept by its byte: set, or unset whatever the byte is.
abbrev pub byte_cell : (set : Bool) → ℕ → Cell
byte_cell true byte = num byte
byte_cell false byte = unset

abbrev pub byte_cells : List ℕ → (set : Bool) → List Cell
byte_cells them set = map (byte_cell set) them

abbrev pub field_of : Held → Field
field_of (Cells type them) = cells type them.items
field_of (Bytes them set) = cells u8 (byte_cells them.items set)
field_of (Part object) = part object

-- Cells of `uint8_t` are kept by their bytes, and where these aren't set there is one at most.
abbrev pub AreKept : List ℕ → (set : Bool) → Type 0
AreKept them true = Unit {0}
AreKept them false = length them ≤ 1

abbrev pub IsHeld : Held → Type 0
IsHeld (Cells type them) = is_byte type ≡ false
IsHeld (Bytes them set) = AreKept them.items set
IsHeld (Part object) = Unit {0}
