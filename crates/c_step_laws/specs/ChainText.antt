-- A text of three functions, each of which calls the one before it: in an initial value, in an assignment, and as a statement.
use Rattle.std.specs.Prelude.{List, [], ◌∷◌, Some, None, codes}
use Rattle.wf_text.specs.Surface.{Surface}
use Rattle.c_text.specs.declared.kinds.COp.TheVariants.{Add}
use Rattle.c_text.specs.declared.kinds.CUint.TheVariants.{U32}
use Rattle.c_text.specs.declared.kinds.Linkage.TheVariants.{External, Static, StaticInline}
use Rattle.c_text.specs.CTree.{uint, text, ExprTree, called, no_arg, expr_arg, assign, call, leave, ItemTree, function_item}
use Rattle.c_meaning.specs.declared.cells.Cell.{Cell}
use Rattle.c_meaning.specs.declared.cells.Cell.TheVariants.{Num as num, Null as null, Unset as unset}
use Rattle.c_meaning.specs.declared.cells.CellType.{CellType}
use Rattle.c_meaning.specs.declared.cells.CellType.TheVariants.{U32 as u32, Pointer as pointer}
use Rattle.c_meaning.specs.CMemory.{Field, cells, Object, Memory}
use Rattle.c_meaning.specs.TextWords.{v, n, o, block, pointer_to, field, parameter, local, struct, io_buffer_item}
use Rattle.c_meaning.specs.SmallText.{base_statuses}

abbrev twice_of : ExprTree → ExprTree
twice_of e = called (codes "twice") (expr_arg e no_arg)

-- static inline uint32_t twice(uint32_t x) { return (x + x); }
abbrev pub twice_item : ItemTree
twice_item = function_item StaticInline (Some (uint U32)) (codes "twice") (parameter (uint U32) "x" ∷ []) [] (block (leave (Some (o Add (v "x") (v "x"))) ∷ []))

-- static uint32_t quadruple(uint32_t y) {
--   uint32_t t = twice(y);
--   uint32_t u;
--   u = twice(t);
--   return u;
-- }
abbrev pub quadruple_item : ItemTree
quadruple_item = function_item Static (Some (uint U32)) (codes "quadruple") (parameter (uint U32) "y" ∷ []) (local (uint U32) "t" (Some (twice_of (v "y"))) ∷ local (uint U32) "u" None ∷ [])
    (block (assign (v "u") (twice_of (v "t")) ∷ leave (Some (v "u")) ∷ []))

-- const char* wuffs_e__e__initialize(wuffs_e__e* self) {
--   uint32_t r;
--   r = quadruple(3);
--   return 0;
-- }
abbrev pub initialize_item : ItemTree
initialize_item = function_item External (Some text) (codes "wuffs_e__e__initialize") (parameter (pointer_to "wuffs_e__e") "self" ∷ []) (local (uint U32) "r" None ∷ [])
    (block (call (Some (v "r")) (codes "quadruple") (expr_arg (n 3) no_arg) ∷ leave (Some (n 0)) ∷ []))

abbrev pub chain_text : List ItemTree
chain_text = io_buffer_item ∷ struct "wuffs_e__e" (field (uint U32) "x" ∷ []) ∷ twice_item ∷ quadruple_item ∷ initialize_item ∷ []

-- The same without the function that a host calls.
abbrev pub uncalled_text : List ItemTree
uncalled_text = io_buffer_item ∷ struct "wuffs_e__e" (field (uint U32) "x" ∷ []) ∷ twice_item ∷ quadruple_item ∷ []

-- Package `e`: `pub struct e()`.
abbrev pub chain_surface : Surface
chain_surface = record { package_name = codes "e"; statuses = base_statuses; structs = record { number = 0; name = codes "e"; methods = [] } ∷ [] }

-- The objects of a call of all three: of `wuffs_e__e__initialize` for a null pointer, of `quadruple` for 3, and of `twice` while the
-- first local of `quadruple` gets its initial value.
abbrev pub one_cell : CellType → Cell → Field
one_cell type cell = cells type (cell ∷ [])

abbrev pub first_object : Object
first_object = one_cell pointer null ∷ one_cell u32 unset ∷ []

abbrev pub second_object : Object
second_object = one_cell u32 (num 3) ∷ one_cell u32 unset ∷ one_cell u32 unset ∷ []

abbrev pub three_objects : Memory
three_objects = first_object ∷ second_object ∷ (one_cell u32 (num 3) ∷ []) ∷ []
