-- The struct of an io buffer, by the cells of its fields.
use Rattle.c_meaning.specs.declared.cells.CellType.TheVariants.{U64 as u64, Pointer as pointer, Flag as flag}
use Rattle.c_meaning.specs.declared.cells.Cell.{Cell}
use Rattle.c_meaning.specs.CMemory.{Object}
use Rattle.std.specs.Prelude.{[], ◌∷◌}
use Rattle.c_meaning.specs.CRun.{one_cell}

abbrev pub io_struct : (start len wi ri pos closed : Cell) → Object
io_struct start len wi ri pos closed = one_cell pointer start ∷ one_cell u64 len ∷ one_cell u64 wi ∷ one_cell u64 ri ∷ one_cell u64 pos ∷ one_cell flag closed ∷ []
