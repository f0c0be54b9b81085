-- A store at one field of one object is a store in memory.
use Rattle.std.proofs.Common.{◌≡◌, ℕ, zero, suc, ◌<◌, Bool, true, false, List, [], ◌∷◌, Option, Some, None, refl, sym, ap, ◌∙◌, arith, length}
use Rattle.std.specs.Prelude.{if◌then◌else◌, nat_lt, slice_get, slice_set, slice_index_or, option_map, option_and_then, unwrap_or}
use Rattle.c_meaning.specs.declared.values.Pointer.{Pointer}
use Rattle.c_meaning.specs.declared.cells.CellType.{CellType}
use Rattle.c_meaning.specs.declared.cells.Cell.{Cell}
use Rattle.c_meaning.specs.CMemory.{Field, cells, part, Object, Memory, cells_of, store}
use Rattle.c_mem.specs.FieldParts.{stored_in, stored_at_field}
use Rattle.c_mem.specs.Leaving.{Leaves}

-- What is read at a place, and put back there.
pub read_is : {A : Type 0} (xs : List A) (i : ℕ) (x : A) → i < length xs → x ≡ slice_index_or xs i x → slice_get xs i ≡ Some x
read_is [] i x h e = absurd (omega (arith, h))
read_is (y ∷ ys) zero x h e = ap Some (sym e)
read_is (y ∷ ys) (suc i) x h e = read_is ys i x (omega (arith, h)) e

pub found_is : {A : Type 0} (xs : List A) (i : ℕ) (d : A) → i < length xs → slice_get xs i ≡ Some (slice_index_or xs i d)
found_is [] i d h = absurd (omega (arith, h))
found_is (y ∷ ys) zero d h = refl
found_is (y ∷ ys) (suc i) d h = found_is ys i d (omega (arith, h))

pub read_back : {A : Type 0} (xs : List A) (i : ℕ) (x y : A) → i < length xs → x ≡ slice_index_or (slice_set xs i y) i x → x ≡ y
read_back [] i x y h e = absurd (omega (arith, h))
read_back (z ∷ zs) zero x y h e = e
read_back (z ∷ zs) (suc i) x y h e = read_back zs i x y (omega (arith, h)) e

pub put_back : {A : Type 0} (xs : List A) (i : ℕ) (x : A) → slice_get xs i ≡ Some x → slice_set xs i x ≡ xs
put_back [] i x e = refl
put_back (y ∷ ys) zero x e = let q : y ≡ x = cc (e) in ap (λ z. z ∷ ys) (sym q)
put_back (y ∷ ys) (suc i) x e = ap (λ zs. y ∷ zs) (put_back ys i x e)

-- A change of one element leaves what the change of that element leaves.
pub leaves_at : {A : Type 0} (xs : List A) (i : ℕ) (it now : A) (given : Option A) (r : Option (Unit {0})) → slice_get xs i ≡ Some it → Leaves given it r now
    → Leaves (option_and_then (λ (x : A). option_map (slice_set xs i) given) (slice_get xs i)) xs r (slice_set xs i now)
leaves_at xs i it now given None e h =
    (ap (option_and_then (λ (x : _). option_map (slice_set xs i) given)) e ∙ ap (option_map (slice_set xs i)) h.0, ap (slice_set xs i) h.1 ∙ put_back xs i it e)
leaves_at xs i it now given (Some done) e h =
    ap (option_and_then (λ (x : _). option_map (slice_set xs i) given)) e ∙ ap (option_map (slice_set xs i)) h

pub leaves_same : {A : Type 0} (given other : Option A) (old new : A) (r : Option (Unit {0})) → given ≡ other → Leaves given old r new → Leaves other old r new
leaves_same given other old new None e h = (sym e ∙ h.0, h.1)
leaves_same given other old new (Some done) e h = sym e ∙ h

pub store_field : (object : Object) (field index : ℕ) (cell : Cell) (it now : Field) (r : Option (Unit {0})) → slice_get object field ≡ Some it
    → Leaves (stored_in it index cell) it r now → Leaves (stored_at_field object field index cell) object r (slice_set object field now)
store_field object field index cell it now r e h =
    leaves_same (option_and_then (λ (x : Field). option_map (slice_set object field) (stored_in it index cell)) (slice_get object field)) (stored_at_field object field index cell) object (slice_set object field now) r
    (ap (option_and_then (λ (x : Field). option_map (slice_set object field) (stored_in it index cell))) e ∙ sym (ap (option_and_then (λ (x : Field). option_map (λ now. slice_set object field now) (stored_in x index cell))) e))
    (leaves_at object field it now (stored_in it index cell) r e h)

-- A store in memory where the object is found.
abbrev store_found : (memory : Memory) (p : Pointer) (cell : Cell) → Option Object → Option Memory
store_found memory p cell found = option_and_then
    (λ (it : CellType × List Cell). if nat_lt p.index (length it.1) then Some (slice_set memory p.object (slice_set (unwrap_or found []) p.field (cells it.0 (slice_set it.1 p.index cell)))) else None)
    (option_and_then cells_of (option_and_then (λ (fields : Object). slice_get fields p.field) found))

store_here : (memory : Memory) (p : Pointer) (cell : Cell) (it : Object) → store_found memory p cell (Some it) ≡ option_map (slice_set memory p.object) (stored_at_field it p.field p.index cell)
store_here memory p cell it = by_field (slice_get it p.field)
  where
    by_test : (type : CellType) (them : List Cell) (b : Bool)
        → (if b then Some (slice_set memory p.object (slice_set it p.field (cells type (slice_set them p.index cell)))) else None)
        ≡ option_map (slice_set memory p.object) (option_map (λ (now : Field). slice_set it p.field now) (if b then Some (cells type (slice_set them p.index cell)) else None))
    by_test type them true = refl
    by_test type them false = refl

    by_field : (found : Option Field) → option_and_then
        (λ (cs : CellType × List Cell). if nat_lt p.index (length cs.1) then Some (slice_set memory p.object (slice_set it p.field (cells cs.0 (slice_set cs.1 p.index cell)))) else None) (option_and_then cells_of found)
        ≡ option_map (slice_set memory p.object) (option_and_then (λ (x : Field). option_map (λ (now : Field). slice_set it p.field now) (stored_in x p.index cell)) found)
    by_field None = refl
    by_field (Some (part object)) = refl
    by_field (Some (cells type them)) = by_test type them (nat_lt p.index (length them))

pub store_object : (memory : Memory) (p : Pointer) (cell : Cell) (it now : Object) (r : Option (Unit {0})) → slice_get memory p.object ≡ Some it
    → Leaves (stored_at_field it p.field p.index cell) it r now → Leaves (store memory p cell) memory r (slice_set memory p.object now)
store_object memory p cell it now r e h =
    leaves_same (option_and_then (λ (x : Object). option_map (slice_set memory p.object) (stored_at_field it p.field p.index cell)) (slice_get memory p.object)) (store memory p cell) memory (slice_set memory p.object now) r
    (ap (option_and_then (λ (x : Object). option_map (slice_set memory p.object) (stored_at_field it p.field p.index cell))) e ∙ (sym (store_here memory p cell it) ∙ sym (ap (store_found memory p cell) e)))
    (leaves_at memory p.object it now (stored_at_field it p.field p.index cell) r e h)
