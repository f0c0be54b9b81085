-- Cells hold values of their fields' types, and objects keep their shapes, whatever runs.
use Rattle.std.proofs.Common.{◌≡◌, ℕ, zero, suc, ◌+◌, ◌-◌, ◌<◌, ◌≤◌, ◌^◌, Bool, true, false, List, [], ◌∷◌, ◌++◌, map, Option, Some, None, refl, sym, subst, ap, ◌∙◌, arith, length, take, drop, length-set, length-append, length-take, length-drop, ℤ, pos, negsuc}
use Rattle.std.specs.Prelude.{if◌then◌else◌, ◌&&◌, nat_eq, nat_lt, nat_le, slice_get, slice_set, slice_range, option_map, option_and_then}
use Rattle.std.specs.List.{list_all}
use Rattle.std.proofs.lemmas.Bool.{leb-true}
use Rattle.wf_num.specs.CArithmetic.{modulo}
use Rattle.c_text.specs.CTree.{ParamTree, LocalTree}
use Rattle.c_meaning.specs.CValues.{Pointer, CValue, numeric, address, null_pointer, whole, is_nonzero}
use Rattle.c_meaning.specs.CMemory.{CellType, u8, u16, u32, u64, flag, pointer, Cell, unset, Field, cells, part, Object, Memory, cell_of, field_at, cells_of, cells_at, object_at, with_field, written, stored, is_set, same_type, whole_cells, copied, exists, moved, move_bytes, zero_cell, zero_field, parts_of, contains, zeroed_from, zeroed}
use Rattle.c_meaning.specs.CTypes.{Function, local_name}
use Rattle.c_meaning.specs.CExprs.{cell_type}
use Rattle.turns.specs.Run.{Outcome, Got}
use Rattle.c_meaning.specs.CStep.{Returned}
use Rattle.c_meaning.specs.CCall.{Program, field_with, passed, frame_object, call_of, host_call}
use Rattle.c_meaning.specs.Typed.{CellFits, CellsFit, FieldFits, ObjectFits, IsTyped, of_cells, of_part, field_shape, object_shape, shape_of, StaysTyped}
use Rattle.c_meaning.proofs.KeptSteps.{LeftBy, OutBy, IsKept, MeaningBy, call_by}

-- Values of cells.
left_over : (z : ℤ) (m : ℕ) → 0 < m → modulo z m < m
left_over (pos n) m h = omega arith
left_over (negsuc n) m h = omega arith

abbrev OneFits : CellType → Option Cell → Type 0
OneFits type None = Unit {0}
OneFits type (Some cell) = CellFits type cell

flag_fits : (b : Bool) → (if b then 1 else 0) < 2
flag_fits true = omega arith
flag_fits false = omega arith

cell_of_fits : (type : CellType) (v : CValue) → OneFits type (cell_of type v)
cell_of_fits u8 (numeric n) = left_over (whole n) (2 ^ 8) (omega arith)
cell_of_fits u16 (numeric n) = left_over (whole n) (2 ^ 16) (omega arith)
cell_of_fits u32 (numeric n) = left_over (whole n) (2 ^ 32) (omega arith)
cell_of_fits u64 (numeric n) = left_over (whole n) (2 ^ 64) (omega arith)
cell_of_fits flag (numeric n) = flag_fits (is_nonzero n)
cell_of_fits pointer (numeric n) = tt
cell_of_fits u8 null_pointer = tt
cell_of_fits u8 (address p) = tt
cell_of_fits u16 null_pointer = tt
cell_of_fits u16 (address p) = tt
cell_of_fits u32 null_pointer = tt
cell_of_fits u32 (address p) = tt
cell_of_fits u64 null_pointer = tt
cell_of_fits u64 (address p) = tt
cell_of_fits flag null_pointer = tt
cell_of_fits flag (address p) = tt
cell_of_fits pointer null_pointer = tt
cell_of_fits pointer (address p) = tt

zero_fits : (type : CellType) → CellFits type (zero_cell type)
zero_fits u8 = omega arith
zero_fits u16 = omega arith
zero_fits u32 = omega arith
zero_fits u64 = omega arith
zero_fits flag = omega arith
zero_fits pointer = tt

-- Lists of cells.
set_fits : (type : CellType) (them : List Cell) (i : ℕ) (c : Cell) → CellsFit type them → CellFits type c → CellsFit type (slice_set them i c)
set_fits type [] i c h k = h
set_fits type (x ∷ xs) zero c h k = (k, h.1)
set_fits type (x ∷ xs) (suc i) c h k = (h.0, set_fits type xs i c h.1 k)

take_fits : (type : CellType) (n : ℕ) (them : List Cell) → CellsFit type them → CellsFit type (take n them)
take_fits type zero them h = tt
take_fits type (suc n) [] h = tt
take_fits type (suc n) (x ∷ xs) h = (h.0, take_fits type n xs h.1)

drop_fits : (type : CellType) (n : ℕ) (them : List Cell) → CellsFit type them → CellsFit type (drop n them)
drop_fits type zero them h = h
drop_fits type (suc n) [] h = tt
drop_fits type (suc n) (x ∷ xs) h = drop_fits type n xs h.1

append_fits : (type : CellType) (xs ys : List Cell) → CellsFit type xs → CellsFit type ys → CellsFit type (xs ++ ys)
append_fits type [] ys h k = k
append_fits type (x ∷ xs) ys h k = (h.0, append_fits type xs ys h.1 k)

zeros_fit : (type : CellType) (them : List Cell) → CellsFit type (map (λ _. zero_cell type) them)
zeros_fit type [] = tt
zeros_fit type (x ∷ xs) = (zero_fits type, zeros_fit type xs)

-- Fields and objects.
abbrev FldFits : Option Field → Type 0
FldFits None = Unit {0}
FldFits (Some field) = FieldFits field

abbrev FoundFits : Option Object → Type 0
FoundFits None = Unit {0}
FoundFits (Some object) = ObjectFits object

get_field_fits : (fields : Object) (f : ℕ) → ObjectFits fields → FldFits (slice_get fields f)
get_field_fits [] f h = tt
get_field_fits (x ∷ xs) zero h = h.0
get_field_fits (x ∷ xs) (suc f) h = get_field_fits xs f h.1

get_object_fits : (memory : Memory) (o : ℕ) → IsTyped memory → FoundFits (slice_get memory o)
get_object_fits [] o h = tt
get_object_fits (x ∷ xs) zero h = h.0
get_object_fits (x ∷ xs) (suc o) h = get_object_fits xs o h.1

field_at_fits : (memory : Memory) (o f : ℕ) → IsTyped memory → FldFits (field_at memory o f)
field_at_fits memory o f h = by_object (slice_get memory o) (get_object_fits memory o h)
  where
    by_object : (found : Option Object) → FoundFits found → FldFits (option_and_then (λ fields. slice_get fields f) found)
    by_object None k = tt
    by_object (Some fields) k = get_field_fits fields f k

set_field_fits : (fields : Object) (f : ℕ) (now : Field) → ObjectFits fields → FieldFits now → ObjectFits (slice_set fields f now)
set_field_fits [] f now h k = h
set_field_fits (x ∷ xs) zero now h k = (k, h.1)
set_field_fits (x ∷ xs) (suc f) now h k = (h.0, set_field_fits xs f now h.1 k)

set_object_fits : (memory : Memory) (o : ℕ) (now : Object) → IsTyped memory → ObjectFits now → IsTyped (slice_set memory o now)
set_object_fits [] o now h k = h
set_object_fits (x ∷ xs) zero now h k = (k, h.1)
set_object_fits (x ∷ xs) (suc o) now h k = (h.0, set_object_fits xs o now h.1 k)

map_set : {A B : Type 0} (g : A → B) (xs : List A) (i : ℕ) (x y : A) → slice_get xs i ≡ Some x → g y ≡ g x → map g (slice_set xs i y) ≡ map g xs
map_set g [] i x y e h = refl
map_set g (z ∷ xs) zero x y e h = let s : z ≡ x = cc (e) in ap (λ w. w ∷ map g xs) (h ∙ ap g (sym s))
map_set g (z ∷ xs) (suc i) x y e h = ap (λ ws. g z ∷ ws) (map_set g xs i x y e h)

-- A field in place of one of its shape.
with_field_typed : (memory : Memory) (o f : ℕ) (old now : Field) → IsTyped memory → field_at memory o f ≡ Some old → field_shape now ≡ field_shape old → FieldFits now → StaysTyped memory (with_field o f now memory)
with_field_typed memory o f old now typed e s h = by_object (slice_get memory o) refl (get_object_fits memory o typed)
  where
    by_object : (found : Option Object) → slice_get memory o ≡ found → FoundFits found → StaysTyped memory (with_field o f now memory)
    by_object None g k = absurd (cc (rw g at e))
    by_object (Some fields) g k =
        let a : object_at memory o ≡ fields = rw g refl in
        let there : slice_get fields f ≡ Some old = rw g at e in
        rw a (record {
          typed = set_object_fits memory o (slice_set fields f now) typed (set_field_fits fields f now k h);
          shape = map_set object_shape memory o fields (slice_set fields f now) g (map_set field_shape fields f old now there s);
        })

-- Stores.
if_typed : (b : Bool) (before now : Memory) → StaysTyped before now → LeftBy StaysTyped before (if b then Some now else None)
if_typed true before now h = h
if_typed false before now h = tt

same_typed : (memory : Memory) → IsTyped memory → StaysTyped memory memory
same_typed memory typed = record { typed = typed; shape = refl }

stored_typed : (memory : Memory) → IsTyped memory → (p : Pointer) (v : CValue) → LeftBy StaysTyped memory (stored memory p v)
stored_typed memory typed p v = by_field (field_at memory p.object p.field) refl (field_at_fits memory p.object p.field typed)
  where
    by_value : (type : CellType) (them : List Cell) → field_at memory p.object p.field ≡ Some (cells type them) → CellsFit type them → (c : Option Cell) → OneFits type c → LeftBy StaysTyped memory (option_and_then (λ cell. written memory p cell (type, them)) c)
    by_value type them g k None h = tt
    by_value type them g k (Some c) h = if_typed (nat_lt p.index (length them)) memory _
        (with_field_typed memory p.object p.field (cells type them) (cells type (slice_set them p.index c)) typed g (ap (of_cells type) (length-set them p.index c)) (set_fits type them p.index c k h))

    by_cell : (type : CellType) (them : List Cell) → field_at memory p.object p.field ≡ Some (cells type them) → CellsFit type them → (found : Option Cell)
        → LeftBy StaysTyped memory (option_and_then (λ cell. written memory p cell (type, them)) (option_and_then (λ (it : CellType × Cell). cell_of it.0 v) (option_map (λ (c : Cell). (type, c)) found)))
    by_cell type them g k None = tt
    by_cell type them g k (Some c) = by_value type them g k (cell_of type v) (cell_of_fits type v)

    by_field : (found : Option Field) → field_at memory p.object p.field ≡ found → FldFits found → LeftBy StaysTyped memory (stored memory p v)
    by_field None g k = rw g tt
    by_field (Some (part object)) g k = rw g tt
    by_field (Some (cells type them)) g k = rw g (by_cell type them g k (slice_get them p.index))

-- memmove
same_kind : (a b : CellType) → same_type a b ≡ true → a ≡ b
same_kind u8 u8 e = refl
same_kind u8 u16 e = absurd (cc (e))
same_kind u8 u32 e = absurd (cc (e))
same_kind u8 u64 e = absurd (cc (e))
same_kind u8 flag e = absurd (cc (e))
same_kind u8 pointer e = absurd (cc (e))
same_kind u16 u8 e = absurd (cc (e))
same_kind u16 u16 e = refl
same_kind u16 u32 e = absurd (cc (e))
same_kind u16 u64 e = absurd (cc (e))
same_kind u16 flag e = absurd (cc (e))
same_kind u16 pointer e = absurd (cc (e))
same_kind u32 u8 e = absurd (cc (e))
same_kind u32 u16 e = absurd (cc (e))
same_kind u32 u32 e = refl
same_kind u32 u64 e = absurd (cc (e))
same_kind u32 flag e = absurd (cc (e))
same_kind u32 pointer e = absurd (cc (e))
same_kind u64 u8 e = absurd (cc (e))
same_kind u64 u16 e = absurd (cc (e))
same_kind u64 u32 e = absurd (cc (e))
same_kind u64 u64 e = refl
same_kind u64 flag e = absurd (cc (e))
same_kind u64 pointer e = absurd (cc (e))
same_kind flag u8 e = absurd (cc (e))
same_kind flag u16 e = absurd (cc (e))
same_kind flag u32 e = absurd (cc (e))
same_kind flag u64 e = absurd (cc (e))
same_kind flag flag e = refl
same_kind flag pointer e = absurd (cc (e))
same_kind pointer u8 e = absurd (cc (e))
same_kind pointer u16 e = absurd (cc (e))
same_kind pointer u32 e = absurd (cc (e))
same_kind pointer u64 e = absurd (cc (e))
same_kind pointer flag e = absurd (cc (e))
same_kind pointer pointer e = refl

tests_hold : (a b c d : Bool) → (a && (b && (c && d))) ≡ true → (a ≡ true) × ((b ≡ true) × (c ≡ true))
tests_hold false b c d e = absurd (cc (e))
tests_hold true false c d e = absurd (cc (e))
tests_hold true true false d e = absurd (cc (e))
tests_hold true true true d e = (refl, (refl, refl))

length_moved : (to from count : ℕ) (target source : List Cell) → from + count ≤ length source → to + count ≤ length target
    → length (take to target ++ (slice_range source from (from + count) ++ drop (to + count) target)) ≡ length target
length_moved to from count target source h k = simp (length-append, length-take, length-drop) (omega (arith, h, k))

if_test : (b : Bool) (before now : Memory) → (b ≡ true → StaysTyped before now) → LeftBy StaysTyped before (if b then Some now else None)
if_test true before now h = h refl
if_test false before now h = tt

module _ (memory : Memory) (typed : IsTyped memory) (to from : Pointer) where
  copied_typed : (count : ℕ) (target source : CellType × List Cell) → field_at memory to.object to.field ≡ Some (cells target.0 target.1) → CellsFit target.0 target.1 → CellsFit source.0 source.1 → LeftBy StaysTyped memory (copied memory to from count target source)
  copied_typed count target source g h k = if_test _ memory _ moved_there
    where
      them : List Cell
      them = take to.index target.1 ++ (slice_range source.1 from.index (from.index + count) ++ drop (to.index + count) target.1)

      moved_there : (same_type target.0 source.0 && (nat_le (from.index + count) (length source.1) && (nat_le (to.index + count) (length target.1) && list_all is_set (slice_range source.1 from.index (from.index + count))))) ≡ true
          → StaysTyped memory (with_field to.object to.field (cells target.0 them) memory)
      moved_there e =
          let t : (same_type target.0 source.0 ≡ true) × ((nat_le (from.index + count) (length source.1) ≡ true) × (nat_le (to.index + count) (length target.1) ≡ true)) =
          tests_hold (same_type target.0 source.0) (nat_le (from.index + count) (length source.1)) (nat_le (to.index + count) (length target.1)) (list_all is_set (slice_range source.1 from.index (from.index + count))) e in
          let s : target.0 ≡ source.0 = same_kind target.0 source.0 t.0 in
          let a : from.index + count ≤ length source.1 = leb-true (from.index + count) (length source.1) t.1.0 in
          let b : to.index + count ≤ length target.1 = leb-true (to.index + count) (length target.1) t.1.1 in
          let moved_cells : CellsFit target.0 (slice_range source.1 from.index (from.index + count)) = subst (λ (t : CellType). CellsFit t (slice_range source.1 from.index (from.index + count))) (sym s) (take_fits source.0 ((from.index + count) - from.index) (drop from.index source.1) (drop_fits source.0 from.index source.1 k)) in
          with_field_typed memory to.object to.field (cells target.0 target.1) (cells target.0 them) typed g
          (ap (of_cells target.0) (length_moved to.index from.index count target.1 source.1 a b))
          (append_fits target.0 (take to.index target.1) _ (take_fits target.0 to.index target.1 h) (append_fits target.0 (slice_range source.1 from.index (from.index + count)) _ moved_cells (drop_fits target.0 (to.index + count) target.1 h)))

  moved_typed : (bytes : ℕ) (target source : CellType × List Cell) → field_at memory to.object to.field ≡ Some (cells target.0 target.1) → CellsFit target.0 target.1 → CellsFit source.0 source.1 → LeftBy StaysTyped memory (moved memory to from bytes target source)
  moved_typed bytes target source g h k = by_test (nat_eq bytes 0)
    where
      counted : (o : Option ℕ) → LeftBy StaysTyped memory (option_and_then (λ count. copied memory to from count target source) o)
      counted None = tt
      counted (Some count) = copied_typed count target source g h k

      by_test : (b : Bool) → LeftBy StaysTyped memory (if b then (if exists target to.index && exists source from.index then Some memory else None) else option_and_then (λ count. copied memory to from count target source) (whole_cells source.0 bytes))
      by_test true = if_typed (exists target to.index && exists source from.index) memory memory (same_typed memory typed)
      by_test false = counted (whole_cells source.0 bytes)

  move_typed : (bytes : ℕ) → LeftBy StaysTyped memory (move_bytes memory to from bytes)
  move_typed bytes = by_target (field_at memory to.object to.field) refl (field_at_fits memory to.object to.field typed)
    where
      by_source : (type : CellType) (them : List Cell) → field_at memory to.object to.field ≡ Some (cells type them) → CellsFit type them → (source : Option Field) → FldFits source
          → LeftBy StaysTyped memory (option_and_then (λ it. moved memory to from bytes (type, them) it) (option_and_then cells_of source))
      by_source type them g h None k = tt
      by_source type them g h (Some (part object)) k = tt
      by_source type them g h (Some (cells kind others)) k = moved_typed bytes (type, them) (kind, others) g h k

      by_target : (target : Option Field) → field_at memory to.object to.field ≡ target → FldFits target → LeftBy StaysTyped memory (option_and_then (λ it. option_and_then (λ source. moved memory to from bytes it source) (cells_at memory from.object from.field)) (option_and_then cells_of target))
      by_target None g h = tt
      by_target (Some (part object)) g h = tt
      by_target (Some (cells type them)) g h = by_source type them g h (field_at memory from.object from.field) (field_at_fits memory from.object from.field typed)

-- memset
length_map : {A B : Type 0} (g : A → B) (xs : List A) → length (map g xs) ≡ length xs
length_map g [] = refl
length_map g (x ∷ xs) = ap suc (length_map g xs)

zero_object_fits : (object : Object) → ObjectFits object → ObjectFits (map zero_field object)
zero_object_fits [] h = tt
zero_object_fits (cells type them ∷ fields) h = (zeros_fit type them, zero_object_fits fields h.1)
zero_object_fits (part o ∷ fields) h = (tt, zero_object_fits fields h.1)

zero_object_shape : (object : Object) → object_shape (map zero_field object) ≡ object_shape object
zero_object_shape [] = refl
zero_object_shape (cells type them ∷ fields) = ap (λ n. of_cells type n ∷ object_shape (map zero_field fields)) (length_map (λ _. zero_cell type) them) ∙ ap (λ s. of_cells type (length them) ∷ s) (zero_object_shape fields)
zero_object_shape (part o ∷ fields) = ap (λ s. of_part o ∷ s) (zero_object_shape fields)

front_typed : (b : Bool) (object : Object) (before now : Memory) → ObjectFits object → StaysTyped before now → StaysTyped (object ∷ before) ((if b then map zero_field object else object) ∷ now)
front_typed true object before now h k = record { typed = (zero_object_fits object h, k.typed); shape = ap (λ s. s ∷ shape_of now) (zero_object_shape object) ∙ ap (λ s. object_shape object ∷ s) k.shape }
front_typed false object before now h k = record { typed = (h, k.typed); shape = ap (λ s. object_shape object ∷ s) k.shape }

zeroed_from_typed : (number : ℕ) (wanted : List ℕ) (memory : Memory) → IsTyped memory → StaysTyped memory (zeroed_from number wanted memory)
zeroed_from_typed number wanted [] h = record { typed = tt; shape = refl }
zeroed_from_typed number wanted (object ∷ objects) h = front_typed (contains wanted number) object objects _ h.0 (zeroed_from_typed (number + 1) (if contains wanted number then parts_of object ++ wanted else wanted) objects h.1)

zeroed_typed : (memory : Memory) → IsTyped memory → (object : ℕ) → LeftBy StaysTyped memory (zeroed memory object)
zeroed_typed memory typed object = if_typed (nat_lt object (length memory)) memory _ (zeroed_from_typed 0 (object ∷ []) memory typed)

-- The object of a call.
append_typed : (memory : Memory) (object : Object) → IsTyped memory → ObjectFits object → IsTyped (memory ++ object ∷ [])
append_typed [] object h k = (k, tt)
append_typed (x ∷ xs) object h k = (h.0, append_typed xs object h.1 k)

abbrev ObjFits : Option Object → Type 0
ObjFits None = Unit {0}
ObjFits (Some object) = ObjectFits object

passed_cell : (p : ParamTree) (rest : Option (List Field)) (c : Option Cell) → OneFits (cell_type p.kind) c → ObjFits rest → ObjFits (option_and_then (λ cell. option_map (λ fields. field_with p cell ∷ fields) rest) c)
passed_cell p rest None h k = tt
passed_cell p None (Some c) h k = tt
passed_cell p (Some fields) (Some c) h k = ((h, tt), k)

passed_fits : (ps : List ParamTree) (vs : List CValue) → ObjFits (passed ps vs)
passed_fits [] [] = tt
passed_fits [] (v ∷ vs) = tt
passed_fits (p ∷ ps) [] = tt
passed_fits (p ∷ ps) (v ∷ vs) = passed_cell p (passed ps vs) (cell_of (cell_type p.kind) v) (cell_of_fits (cell_type p.kind) v) (passed_fits ps vs)

unset_fits : (ls : List LocalTree) → ObjectFits (map (λ l. field_with (local_name l) unset) ls)
unset_fits [] = tt
unset_fits (l ∷ ls) = ((tt, tt), unset_fits ls)

append_object_fits : (xs ys : Object) → ObjectFits xs → ObjectFits ys → ObjectFits (xs ++ ys)
append_object_fits [] ys h k = k
append_object_fits (x ∷ xs) ys h k = (h.0, append_object_fits xs ys h.1 k)

frame_fits : (f : Function) (given : List CValue) → ObjFits (frame_object f given)
frame_fits f given = with_locals (passed f.params given) (passed_fits f.params given)
  where
    with_locals : (o : Option Object) → ObjFits o → ObjFits (option_map (λ fields. fields ++ map (λ l. field_with (local_name l) unset) f.locals) o)
    with_locals None k = tt
    with_locals (Some fields) k = append_object_fits fields _ k (unset_fits f.locals)

enters_typed : (memory : Memory) → IsTyped memory → (f : Function) (given : List CValue) (object : Object) → frame_object f given ≡ Some object → IsTyped (memory ++ object ∷ [])
enters_typed memory typed f given object e = append_typed memory object typed (subst ObjFits e (frame_fits f given))

pub take_typed : (n : ℕ) (memory : Memory) → IsTyped memory → IsTyped (take n memory)
take_typed zero memory h = tt
take_typed (suc n) [] h = tt
take_typed (suc n) (x ∷ xs) h = (h.0, take_typed n xs h.1)

-- the shape of the front is the front of the shape
front_shape : (memory now : Memory) (object : Object) → shape_of now ≡ shape_of (memory ++ object ∷ []) → shape_of (take (length memory) now) ≡ shape_of memory
front_shape [] now object e = refl
front_shape (x ∷ xs) [] object e = absurd (cc (e))
front_shape (x ∷ xs) (y ∷ ys) object e =
    let a : object_shape y ≡ object_shape x = cc (e) in
    let b : shape_of ys ≡ shape_of (xs ++ object ∷ []) = cc (e) in
    ap (λ s. s ∷ shape_of (take (length xs) ys)) a ∙ ap (λ s. object_shape x ∷ s) (front_shape xs ys object b)

exits_typed : (memory : Memory) → IsTyped memory → (object : Object) (now : Memory) → StaysTyped (memory ++ object ∷ []) now → StaysTyped memory (take (length memory) now)
exits_typed memory typed object now h = record { typed = take_typed (length memory) now h.typed; shape = front_shape memory now object h.shape }

pub typed_kept : IsKept IsTyped StaysTyped
typed_kept = record {
  same = same_typed;
  chain = λ a b c h k. record { typed = k.typed; shape = k.shape ∙ h.shape };
  fit = λ a b h k. k.typed;
  stores = stored_typed;
  moves = λ memory typed to from n. move_typed memory typed to from n;
  sets = zeroed_typed;
  enters = enters_typed;
  exits = exits_typed;
}

pub call_typed : (p : Program) (name : List ℕ) → MeaningBy IsTyped StaysTyped typed_kept (call_of p p.functions name)
call_typed p name = call_by IsTyped StaysTyped typed_kept p p.functions name

pub function_typed : (p : Program) (name : List ℕ) (n left : ℕ) (given : List CValue) (memory : Memory) (done : Returned)
    → IsTyped memory → host_call p name n given memory ≡ Got left done → StaysTyped memory done.memory
function_typed p name n left given memory done typed e =
    let F : Outcome Returned → Type 0 = OutBy StaysTyped memory in
    subst F e ((call_typed p name).by n given memory typed)
