-- The cells of the objects that stand beside those that were there before.
use Rattle.std.proofs.Common.{◌≡◌, ◌≤◌, ℕ, ◌+◌, List, [], ◌∷◌, ◌++◌, length, map, drop, Option, Some, None, refl, sym, ap, ◌∙◌, subst, arith}
use Rattle.std.specs.Prelude.{option_map, option_and_then}
use Rattle.std.proofs.lemmas.List.{append_assoc, append-nil, length-map, drop_at}
use Rattle.c_text.specs.CTree.{ParamTree, LocalTree}
use Rattle.c_meaning.specs.declared.values.CValue.{CValue}
use Rattle.c_meaning.specs.declared.cells.Cell.{Cell}
use Rattle.c_meaning.specs.declared.cells.Cell.TheVariants.{Unset as unset}
use Rattle.c_meaning.specs.CMemory.{Field, cells, part, Object, Memory, cell_of}
use Rattle.c_meaning.specs.CTypes.{Function, local_name}
use Rattle.c_meaning.specs.CExprs.{cell_type}
use Rattle.c_meaning.specs.CCall.{field_with, passed, frame_object}
use Rattle.c_meaning.specs.Typed.{object_shape, shape_of}
use Rattle.c_step_laws.specs.CallChains.{own_cells}
use Rattle.c_step_laws.specs.Passing.{object_cells, memory_cells}

-- Memory is that of before, of the same shapes, and further objects of so many cells.
pub record Over (memory now : Memory) (most : ℕ) : Type 0 where
  pub front : Memory
  pub back : Memory
  pub is : now ≡ front ++ back
  pub shape : shape_of front ≡ shape_of memory
  pub size : memory_cells back ≤ most

pub over_here : (memory now : Memory) (most : ℕ) → shape_of now ≡ shape_of memory → Over memory now most
over_here memory now most h = record { front = now; back = []; is = sym (append-nil now); shape = h; size = omega arith }

pub over_same : (memory later now : Memory) (most : ℕ) → shape_of later ≡ shape_of memory → Over later now most → Over memory now most
over_same memory later now most h k = record { front = k.front; back = k.back; is = k.is; shape = k.shape ∙ h; size = k.size }

pub over_more : (memory now : Memory) (less most : ℕ) → less ≤ most → Over memory now less → Over memory now most
over_more memory now less most h k = let s = k.size in record { front = k.front; back = k.back; is = k.is; shape = k.shape; size = omega (arith, h, s) }

-- Objects of one shape have as many cells.
same_cells : (a b : Object) → object_shape a ≡ object_shape b → object_cells a ≡ object_cells b
same_cells [] [] e = refl
same_cells [] (y ∷ ys) e = absurd (cc e)
same_cells (x ∷ xs) [] e = absurd (cc e)
same_cells (cells t them ∷ xs) (cells u those ∷ ys) e =
    let a : length them ≡ length those = cc e in
    let b : object_shape xs ≡ object_shape ys = cc e in
    omega (arith, a, same_cells xs ys b)
same_cells (cells t them ∷ xs) (part o ∷ ys) e = absurd (cc e)
same_cells (part o ∷ xs) (cells u those ∷ ys) e = absurd (cc e)
same_cells (part o ∷ xs) (part p ∷ ys) e =
    let b : object_shape xs ≡ object_shape ys = cc e in
    omega (arith, same_cells xs ys b)

record Split (front memory : Memory) (object : Object) : Type 0 where
  before : Memory
  last : Object
  is : front ≡ before ++ last ∷ []
  shape : shape_of before ≡ shape_of memory
  same : object_shape last ≡ object_shape object

one_further : (x m : Object) (front memory : Memory) (object : Object) → object_shape x ≡ object_shape m → Split front memory object → Split (x ∷ front) (m ∷ memory) object
one_further x m front memory object a k = record {
  before = x ∷ k.before;
  last = k.last;
  is = ap (λ ys. x ∷ ys) k.is;
  shape = ap (λ s. s ∷ shape_of k.before) a ∙ ap (λ ss. object_shape m ∷ ss) k.shape;
  same = k.same;
}

split : (memory front : Memory) (object : Object) → shape_of front ≡ shape_of (memory ++ object ∷ []) → Split front memory object
split [] [] object e = absurd (cc e)
split [] (x ∷ []) object e = record { before = []; last = x; is = refl; shape = refl; same = cc e }
split [] (x ∷ y ∷ front) object e = absurd (cc e)
split (m ∷ memory) [] object e = absurd (cc e)
split (m ∷ memory) (x ∷ front) object e =
    let a : object_shape x ≡ object_shape m = cc e in
    let b : shape_of front ≡ shape_of (memory ++ object ∷ []) = cc e in
    one_further x m front memory object a (split memory front object b)

pub over_object : (memory now : Memory) (object : Object) (most : ℕ) → Over (memory ++ object ∷ []) now most → Over memory now (object_cells object + most)
over_object memory now object most h =
    let k = split memory h.front object h.shape in
    let s = h.size in
    let c = same_cells k.last object k.same in
    record {
      front = k.before;
      back = k.last ∷ h.back;
      is = h.is ∙ (ap (λ (xs : Memory). xs ++ h.back) k.is ∙ append_assoc k.before (k.last ∷ []) h.back);
      shape = k.shape;
      size = omega (arith, s, c);
    }

as_long : (a b : Memory) → shape_of a ≡ shape_of b → length a ≡ length b
as_long a b e = sym (length-map a object_shape) ∙ (ap length e ∙ length-map b object_shape)

pub over_size : (memory now : Memory) (most : ℕ) → Over memory now most → memory_cells (drop (length memory) now) ≤ most
over_size memory now most h =
    let rest : drop (length memory) now ≡ h.back = ap (drop (length memory)) h.is ∙ drop_at h.front h.back (length memory) (as_long h.front memory h.shape) in
    subst (λ (xs : Memory). memory_cells xs ≤ most) (sym rest) h.size

-- The object of a call has a cell for each parameter and local.
abbrev HasCells : ℕ → Option Object → Type 0
HasCells n None = Unit {0}
HasCells n (Some object) = object_cells object ≡ n

cells_append : (xs ys : Object) → object_cells (xs ++ ys) ≡ object_cells xs + object_cells ys
cells_append [] ys = omega arith
cells_append (x ∷ xs) ys = omega (arith, cells_append xs ys)

passed_has : (ps : List ParamTree) (vs : List CValue) → HasCells (length ps) (passed ps vs)
passed_has [] [] = refl
passed_has [] (v ∷ vs) = tt
passed_has (p ∷ ps) [] = tt
passed_has (p ∷ ps) (v ∷ vs) = by (cell_of (cell_type p.kind) v) (passed ps vs) (passed_has ps vs)
  where
    by : (cell : Option Cell) (rest : Option (List Field)) → HasCells (length ps) rest → HasCells (length (p ∷ ps)) (option_and_then (λ cell. option_map (λ fields. field_with p cell ∷ fields) rest) cell)
    by None rest h = tt
    by (Some cell) None h = tt
    by (Some cell) (Some fields) h = omega (arith, h)

pub passed_cells : (ps : List ParamTree) (vs : List CValue) (object : Object) → passed ps vs ≡ Some object → object_cells object ≡ length ps
passed_cells ps vs object e = subst (HasCells (length ps)) e (passed_has ps vs)

locals_cells : (ls : List LocalTree) → object_cells (map (λ l. field_with (local_name l) unset) ls) ≡ length ls
locals_cells [] = refl
locals_cells (l ∷ ls) = omega (arith, locals_cells ls)

frame_has : (f : Function) (given : List CValue) → HasCells (own_cells f) (frame_object f given)
frame_has f given = by (passed f.params given) (passed_has f.params given)
  where
    by : (fields : Option (List Field)) → HasCells (length f.params) fields → HasCells (own_cells f) (option_map (λ fields. fields ++ map (λ l. field_with (local_name l) unset) f.locals) fields)
    by None h = tt
    by (Some fields) h = omega (arith, h, cells_append fields (map (λ l. field_with (local_name l) unset) f.locals), locals_cells f.locals)

pub frame_cells : (f : Function) (given : List CValue) (object : Object) → frame_object f given ≡ Some object → object_cells object ≡ own_cells f
frame_cells f given object e = subst (HasCells (own_cells f)) e (frame_has f given)
