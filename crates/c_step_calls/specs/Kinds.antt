-- What is returned is a value of the type that the function declares.
use Rattle.std.specs.Prelude.{ℕ, ◌^◌, ◌<◌, Option, Some, None}
use Rattle.c_text.specs.CTree.{TypeTree}
use Rattle.c_meaning.specs.declared.values.CValue.{CValue}
use Rattle.c_meaning.specs.declared.values.CValue.TheVariants.{Numeric as numeric, Address as address, NullPointer as null_pointer}
use Rattle.c_meaning.specs.declared.cells.CellType.{CellType}
use Rattle.c_meaning.specs.declared.cells.CellType.TheVariants.{U8 as u8, U16 as u16, U32 as u32, U64 as u64, Flag as flag, Pointer as pointer}
use Rattle.c_meaning.specs.CExprs.{cell_type}

-- A number of a fixed width is below the power of 2.
abbrev pub NumberIs : CellType → (bits : ℕ) → Type 0
NumberIs u8 n = n < 2 ^ 8
NumberIs u16 n = n < 2 ^ 16
NumberIs u32 n = n < 2 ^ 32
NumberIs u64 n = n < 2 ^ 64
NumberIs flag n = Unit {0}
NumberIs pointer n = Unit {0}

abbrev pub ValueIs : CellType → CValue → Type 0
ValueIs type (numeric n) = NumberIs type n.bits
ValueIs type (address p) = Unit {0}
ValueIs type null_pointer = Unit {0}

abbrev pub ResultIs : Option TypeTree → Option CValue → Type 0
ResultIs type None = Unit {0}
ResultIs None (Some v) = Unit {0}
ResultIs (Some t) (Some v) = ValueIs (cell_type t) v
