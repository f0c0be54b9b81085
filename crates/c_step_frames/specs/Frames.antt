-- The object of a call, by the types of the cells of its parameters and locals.
use Rattle.std.specs.Prelude.{◌≡◌, ℕ, Bool, true, false, List, [], ◌∷◌, ◌++◌, length, map, take, drop, reverse, slice_get, slice_set, Option, Some, None, option_map, option_and_then, ◌⊎◌}
use Rattle.c_text.specs.CTree.{ParamTree, LocalTree}
use Rattle.c_meaning.specs.declared.cells.Cell.{Cell}
use Rattle.c_meaning.specs.declared.cells.Cell.TheVariants.{Unset as unset}
use Rattle.c_meaning.specs.declared.cells.CellType.{CellType}
use Rattle.c_meaning.specs.declared.values.CValue.{CValue}
use Rattle.c_meaning.specs.CMemory.{Field, cells, part, Object, Memory, cell_of}
use Rattle.c_meaning.specs.CExprs.{cell_type}
use Rattle.c_meaning.specs.Typed.{object_shape}

abbrev pub param_type : ParamTree → CellType
param_type p = cell_type p.kind

abbrev pub local_type : LocalTree → CellType
local_type l = cell_type l.kind

-- A field of one cell.
abbrev pub one_cell : CellType → Cell → Field
one_cell type cell = cells type (cell ∷ [])

-- The fields of the arguments, each converted to its parameter's type; as many as there are parameters.
abbrev pub passed_cells : List CellType → List CValue → Option (List Field)
passed_cells [] [] = Some []
passed_cells (t ∷ ts) (v ∷ vs) = option_and_then (λ cell. option_map (λ fields. one_cell t cell ∷ fields) (passed_cells ts vs)) (cell_of t v)
passed_cells ts vs = None

-- The fields of locals, which are unset.
abbrev pub unset_cells : List CellType → List Field
unset_cells ts = map (λ t. one_cell t unset) ts

abbrev pub call_object : (params locals : List CellType) → List CValue → Option Object
call_object params locals given = option_map (λ fields. fields ++ unset_cells locals) (passed_cells params given)

-- A field has one cell, of a type.
abbrev pub IsOneCell : CellType → Field → Type 0
IsOneCell t (cells type []) = ⊥
IsOneCell t (cells type (cell ∷ [])) = type ≡ t
IsOneCell t (cells type (cell ∷ another ∷ others)) = ⊥
IsOneCell t (part object) = ⊥

-- The first fields of an object have one cell each, of these types.
abbrev pub StartsWith : List CellType → Object → Type 0
StartsWith [] fs = Unit {0}
StartsWith (t ∷ ts) [] = ⊥
StartsWith (t ∷ ts) (f ∷ fs) = IsOneCell t f × StartsWith ts fs

-- The arguments that stand on a stack, the last one on top.
abbrev pub on_top : (count : ℕ) → List CValue → List CValue
on_top count stack = reverse (take count stack)

-- The top of the stack becomes the cell of a field; or there is none, or it has no value of that type.
abbrev pub PassesOne : (types : List CellType) → (field : ℕ) → (old : Object) → (stack : List CValue) → Option (Unit {0}) → (new : Object) → (now : List CValue) → Type 0
PassesOne types field old stack (Some done) new now =
    (t : CellType) × (v : CValue) × (cell : Cell) × (slice_get types field ≡ Some t) × (stack ≡ v ∷ now) × (cell_of t v ≡ Some cell) × (new ≡ slice_set old field (one_cell t cell))
PassesOne types field old stack None new now =
    (new ≡ old) × ((stack ≡ []) ⊎ ((t : CellType) × (v : CValue) × (slice_get types field ≡ Some t) × (stack ≡ v ∷ now) × (cell_of t v ≡ None)))

-- The arguments on top of the stack become the first fields of the object, and the others stay.
abbrev pub Passes : (params : List CellType) → (old : Object) → (stack : List CValue) → Option (Unit {0}) → (new : Object) → (now : List CValue) → Type 0
Passes params old stack (Some done) new now =
    (passed_cells params (on_top (length params) stack) ≡ Some (take (length params) new)) × (drop (length params) new ≡ drop (length params) old) × (now ≡ drop (length params) stack)
Passes params old stack None new now = passed_cells params (on_top (length params) stack) ≡ None

-- What a function's calls are made of: the types of the cells of its parameters and locals, and whether the function isn't
-- called now, so that its object, all unset, is kept for the next call.
pub record FrameView : Type 0 where
  pub params : List CellType
  pub locals : List CellType
  pub rests : Bool

-- All types of a frame's cells.
abbrev pub types_of : FrameView → List CellType
types_of f = f.params ++ f.locals

-- The object of a call comes to stand after the others, with the arguments that were on top of the stack; or one of these
-- has no value of its parameter's type, or there are too few, and memory is as before.
abbrev pub Enters : FrameView → Memory → (stack : List CValue) → Bool → (now : Memory) → (left : List CValue) → Type 0
Enters f memory stack true now left =
    (object : Object) × (call_object f.params f.locals (on_top (length f.params) stack) ≡ Some object) × (now ≡ memory ++ object ∷ []) × (left ≡ drop (length f.params) stack)
Enters f memory stack false now left = (call_object f.params f.locals (on_top (length f.params) stack) ≡ None) × (now ≡ memory)

-- The last object of memory has one cell for each of these types.
pub record EndsWith (types : List CellType) (memory : Memory) : Type 0 where
  pub front : Memory
  pub last : Object
  pub is : memory ≡ front ++ last ∷ []
  pub shape : object_shape last ≡ object_shape (unset_cells types)
