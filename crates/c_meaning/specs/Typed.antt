-- Cells hold values of their fields' types, and objects keep their shapes.
use Rattle.std.specs.Prelude.{◌≡◌, ℕ, ◌^◌, ◌<◌, List, [], ◌∷◌, map, length}
use Rattle.c_meaning.specs.CMemory.{CellType, u8, u16, u32, u64, flag, pointer, Cell, num, null, at, unset, Field, cells, part, Object, Memory}

abbrev pub NumberFits : CellType → ℕ → Type 0
NumberFits u8 n = n < 2 ^ 8
NumberFits u16 n = n < 2 ^ 16
NumberFits u32 n = n < 2 ^ 32
NumberFits u64 n = n < 2 ^ 64
NumberFits flag n = n < 2
NumberFits pointer n = ⊥

abbrev pub MayPoint : CellType → Type 0
MayPoint u8 = ⊥
MayPoint u16 = ⊥
MayPoint u32 = ⊥
MayPoint u64 = ⊥
MayPoint flag = ⊥
MayPoint pointer = Unit {0}

-- A number of the type, or, for a pointer's cell, null or a pointer; an unset cell fits every type.
abbrev pub CellFits : CellType → Cell → Type 0
CellFits type (num n) = NumberFits type n
CellFits type null = MayPoint type
CellFits type (at p) = MayPoint type
CellFits type unset = Unit {0}

abbrev pub CellsFit : CellType → List Cell → Type 0
CellsFit type [] = Unit {0}
CellsFit type (cell ∷ others) = CellFits type cell × CellsFit type others

abbrev pub FieldFits : Field → Type 0
FieldFits (cells type them) = CellsFit type them
FieldFits (part object) = Unit {0}

abbrev pub ObjectFits : Object → Type 0
ObjectFits [] = Unit {0}
ObjectFits (field ∷ fields) = FieldFits field × ObjectFits fields

abbrev pub IsTyped : Memory → Type 0
IsTyped [] = Unit {0}
IsTyped (object ∷ objects) = ObjectFits object × IsTyped objects

-- The shape of a field: the type and the number of its cells, or the object inside.
pub data FieldShape : Type 0 where
  of_cells : CellType → (count : ℕ) → FieldShape
  of_part : (object : ℕ) → FieldShape

abbrev pub field_shape : Field → FieldShape
field_shape (cells type them) = of_cells type (length them)
field_shape (part object) = of_part object

abbrev pub object_shape : Object → List FieldShape
object_shape object = map field_shape object

abbrev pub shape_of : Memory → List (List FieldShape)
shape_of memory = map object_shape memory

pub record StaysTyped (before now : Memory) : Type 0 where
  pub typed : IsTyped now
  pub shape : shape_of now ≡ shape_of before
