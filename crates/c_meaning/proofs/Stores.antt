-- A store changes the one cell.
use Rattle.std.proofs.Common.{◌≡◌, ℕ, zero, suc, ◌<◌, Bool, true, false, List, [], ◌∷◌, Option, Some, None, refl, sym, subst, ap, ◌∙◌, arith, length}
use Rattle.std.specs.Prelude.{if◌then◌else◌, nat_eq, nat_lt, slice_get, slice_set, option_map, option_and_then, unwrap_or, is_some}
use Rattle.std.proofs.lemmas.Bool.{ltb-true}
use Rattle.std.proofs.lemmas.Bool.Decides.{nat_tests}
use Rattle.std.proofs.lemmas.Option.{slice_get_within}
use Rattle.c_meaning.specs.CValues.{Pointer, same_pointer}
use Rattle.c_meaning.specs.CMemory.{CellType, Cell, Field, cells, part, Object, Memory, field_at, cells_of, cell_at, part_of, part_at, with_field, written, store}

pub get_set_same : {A : Type 0} (xs : List A) (i : ℕ) (x : A) → i < length xs → slice_get (slice_set xs i x) i ≡ Some x
get_set_same [] i x h = absurd (omega (arith, h))
get_set_same (y ∷ xs) zero x h = refl
get_set_same (y ∷ xs) (suc i) x h = get_set_same xs i x (omega (arith, h))

pub get_set_other : {A : Type 0} (xs : List A) (i j : ℕ) (x : A) → (i ≡ j → ⊥) → slice_get (slice_set xs i x) j ≡ slice_get xs j
get_set_other [] i j x h = refl
get_set_other (y ∷ xs) zero zero x h = absurd (h refl)
get_set_other (y ∷ xs) zero (suc j) x h = refl
get_set_other (y ∷ xs) (suc i) zero x h = refl
get_set_other (y ∷ xs) (suc i) (suc j) x h = get_set_other xs i j x (λ e. h (ap suc e))

get_set_past : {A : Type 0} (xs : List A) (i j : ℕ) (x : A) → slice_get xs i ≡ None → slice_get (slice_set xs i x) j ≡ slice_get xs j
get_set_past [] i j x e = refl
get_set_past (y ∷ xs) zero j x e = absurd (cc (e))
get_set_past (y ∷ xs) (suc i) zero x e = refl
get_set_past (y ∷ xs) (suc i) (suc j) x e = get_set_past xs i j x e

by_equal : {P : Type 0} (i j : ℕ) (b : Bool) → nat_eq i j ≡ b → (i ≡ j → P) → ((i ≡ j → ⊥) → P) → P
by_equal i j true e same other = same (grind (arith, nat_tests, e))
by_equal i j false e same other = other (λ p. absurd (grind (arith, nat_tests, e, p)))

pub equal_or_not : {P : Type 0} (i j : ℕ) → (i ≡ j → P) → ((i ≡ j → ⊥) → P) → P
equal_or_not i j same other = by_equal i j (nat_eq i j) refl same other

-- An object after a change of another one, and of itself.
pub object_other : (memory : Memory) (o o' f : ℕ) (now : Field) → (o ≡ o' → ⊥) → slice_get (with_field o f now memory) o' ≡ slice_get memory o'
object_other memory o o' f now h = get_set_other memory o o' _ h

pub object_same : (memory : Memory) (o f : ℕ) (now : Field) (fields : Object) → slice_get memory o ≡ Some fields → slice_get (with_field o f now memory) o ≡ Some (slice_set fields f now)
object_same memory o f now fields e =
    get_set_same memory o _ (slice_get_within memory o fields e) ∙ ap (λ (found : Option Object). Some (slice_set (unwrap_or found []) f now)) e

pub object_none : (memory : Memory) (o o' f : ℕ) (now : Field) → slice_get memory o ≡ None → slice_get (with_field o f now memory) o' ≡ slice_get memory o'
object_none memory o o' f now e = get_set_past memory o o' _ e

pub field_same : (memory : Memory) (o f : ℕ) (old now : Field) → field_at memory o f ≡ Some old → field_at (with_field o f now memory) o f ≡ Some now
field_same memory o f old now e = by_object (slice_get memory o) refl
  where
    by_object : (found : Option Object) → slice_get memory o ≡ found → field_at (with_field o f now memory) o f ≡ Some now
    by_object None g = absurd (cc (rw g at e))
    by_object (Some fields) g =
        let h : slice_get fields f ≡ Some old = rw g at e in
        rw (object_same memory o f now fields g) (get_set_same fields f now (slice_get_within fields f old h))

pub field_other : (memory : Memory) (o f o' f' : ℕ) (now : Field) → (o ≡ o' → f ≡ f' → ⊥) → field_at (with_field o f now memory) o' f' ≡ field_at memory o' f'
field_other memory o f o' f' now h = equal_or_not o o' same_object (λ n. ap (λ (found : Option Object). option_and_then (λ fields. slice_get fields f') found) (object_other memory o o' f now n))
  where
    by_object : o ≡ o' → (found : Option Object) → slice_get memory o ≡ found → field_at (with_field o f now memory) o f' ≡ field_at memory o f'
    by_object e None g = ap (λ (found : Option Object). option_and_then (λ fields. slice_get fields f') found) (object_none memory o o f now g)
    by_object e (Some fields) g = rw (object_same memory o f now fields g, g) (get_set_other fields f f' now (λ q. h e q))

    same_object : o ≡ o' → field_at (with_field o f now memory) o' f' ≡ field_at memory o' f'
    same_object e = subst (λ (x : ℕ). field_at (with_field o f now memory) x f' ≡ field_at memory x f') e (by_object e (slice_get memory o) refl)

-- What a store has found, and what it leaves.
pub record Stored (memory : Memory) (p : Pointer) (cell : Cell) (now : Memory) : Type 0 where
  pub type : CellType
  pub them : List Cell
  pub field : field_at memory p.object p.field ≡ Some (cells type them)
  pub inside : p.index < length them
  pub left : now ≡ with_field p.object p.field (cells type (slice_set them p.index cell)) memory

pub store_leaves : (memory : Memory) (p : Pointer) (cell : Cell) (now : Memory) → store memory p cell ≡ Some now → Stored memory p cell now
store_leaves memory p cell now e = by_field (field_at memory p.object p.field) refl
  where
    by_test : (type : CellType) (them : List Cell) → field_at memory p.object p.field ≡ Some (cells type them) → (b : Bool) → nat_lt p.index (length them) ≡ b
        → (if b then Some (with_field p.object p.field (cells type (slice_set them p.index cell)) memory) else None) ≡ Some now → Stored memory p cell now
    by_test type them g true t k = record { type = type; them = them; field = g; inside = ltb-true _ _ t; left = sym (cc (k)) }
    by_test type them g false t k = absurd (cc (k))

    by_field : (found : Option Field) → field_at memory p.object p.field ≡ found → Stored memory p cell now
    by_field None g = absurd (cc (rw g at e))
    by_field (Some (part object)) g = absurd (cc (rw g at e))
    by_field (Some (cells type them)) g =
        let k : (if nat_lt p.index (length them) then Some (with_field p.object p.field (cells type (slice_set them p.index cell)) memory) else None) ≡ Some now = rw g at e in
        by_test type them g (nat_lt p.index (length them)) refl k

-- The cell of a field, where there is one.
abbrev pub cell_in : ℕ → Option Field → Option (CellType × Cell)
cell_in index found = option_and_then (λ it. option_map (λ cell. (it.0, cell)) (slice_get it.1 index)) (option_and_then cells_of found)

pub cell_there : (memory : Memory) (p : Pointer) (cell : Cell) (now : Memory) (s : Stored memory p cell now) → cell_at now p ≡ Some (s.type, cell)
cell_there memory p cell now s =
    let e : field_at now p.object p.field ≡ Some (cells s.type (slice_set s.them p.index cell)) = ap (λ (m : Memory). field_at m p.object p.field) s.left ∙ field_same memory p.object p.field (cells s.type s.them) _ s.field in
    ap (cell_in p.index) e ∙ ap (option_map (λ (c : Cell). (s.type, c))) (get_set_same s.them p.index cell s.inside)

same_parts : (p q : Pointer) → same_pointer p q ≡ false → p.object ≡ q.object → p.field ≡ q.field → p.index ≡ q.index → ⊥
same_parts p q e a b c = grind (arith, nat_tests, e, a, b, c)

pub cell_other : (memory : Memory) (p q : Pointer) (cell : Cell) (now : Memory) → Stored memory p cell now → same_pointer p q ≡ false → cell_at now q ≡ cell_at memory q
cell_other memory p q cell now s d = ap (λ (m : Memory). cell_at m q) s.left ∙ equal_or_not p.object q.object (λ a. equal_or_not p.field q.field (in_field a) (λ n. elsewhere (λ _ b. n b))) (λ n. elsewhere (λ a _. n a))
  where
    later : Memory
    later = with_field p.object p.field (cells s.type (slice_set s.them p.index cell)) memory

    elsewhere : (p.object ≡ q.object → p.field ≡ q.field → ⊥) → cell_at later q ≡ cell_at memory q
    elsewhere h = ap (cell_in q.index) (field_other memory p.object p.field q.object q.field _ h)

    in_field : p.object ≡ q.object → p.field ≡ q.field → cell_at later q ≡ cell_at memory q
    in_field a b =
        let e : field_at later q.object q.field ≡ Some (cells s.type (slice_set s.them p.index cell)) = subst (λ (x : ℕ). field_at later x q.field ≡ Some (cells s.type (slice_set s.them p.index cell))) a (subst (λ (y : ℕ). field_at later p.object y ≡ Some (cells s.type (slice_set s.them p.index cell))) b (field_same memory p.object p.field (cells s.type s.them) _ s.field)) in
        let g : field_at memory q.object q.field ≡ Some (cells s.type s.them) = subst (λ (x : ℕ). field_at memory x q.field ≡ Some (cells s.type s.them)) a (subst (λ (y : ℕ). field_at memory p.object y ≡ Some (cells s.type s.them)) b s.field) in
        ap (cell_in q.index) e ∙ (ap (option_map (λ (c : Cell). (s.type, c))) (get_set_other s.them p.index q.index cell (same_parts p q d a b)) ∙ sym (ap (cell_in q.index) g))

pub part_stays : (memory : Memory) (p : Pointer) (cell : Cell) (now : Memory) → Stored memory p cell now → (o f : ℕ) → part_at now o f ≡ part_at memory o f
part_stays memory p cell now s o f = ap (λ (m : Memory). part_at m o f) s.left ∙ equal_or_not p.object o (λ a. equal_or_not p.field f (in_field a) (λ n. elsewhere (λ _ b. n b))) (λ n. elsewhere (λ a _. n a))
  where
    later : Memory
    later = with_field p.object p.field (cells s.type (slice_set s.them p.index cell)) memory

    elsewhere : (p.object ≡ o → p.field ≡ f → ⊥) → part_at later o f ≡ part_at memory o f
    elsewhere h = ap (option_and_then part_of) (field_other memory p.object p.field o f _ h)

    in_field : p.object ≡ o → p.field ≡ f → part_at later o f ≡ part_at memory o f
    in_field a b = subst (λ (x : ℕ). part_at later x f ≡ part_at memory x f) a (subst (λ (y : ℕ). part_at later p.object y ≡ part_at memory p.object y) b
        (ap (option_and_then part_of) (field_same memory p.object p.field (cells s.type s.them) _ s.field) ∙ sym (ap (option_and_then part_of) s.field)))

-- A store is defined where the cell is there.
some_if : {A : Type 0} (b : Bool) (x : A) → is_some (if b then Some x else None) ≡ b
some_if true x = refl
some_if false x = refl

some_map : {A B : Type 0} (g : A → B) (o : Option A) → is_some (option_map g o) ≡ is_some o
some_map g None = refl
some_map g (Some x) = refl

some_get : {A : Type 0} (xs : List A) (i : ℕ) → is_some (slice_get xs i) ≡ nat_lt i (length xs)
some_get [] i = let e : nat_lt i 0 ≡ false = grind (arith, nat_tests) in sym e
some_get (x ∷ xs) zero = let e : nat_lt 0 (suc (length xs)) ≡ true = grind (arith, nat_tests) in sym e
some_get (x ∷ xs) (suc i) = let e : nat_lt (suc i) (suc (length xs)) ≡ nat_lt i (length xs) = grind (arith, nat_tests) in some_get xs i ∙ sym e

pub store_defined : (memory : Memory) (p : Pointer) (cell : Cell) → is_some (store memory p cell) ≡ is_some (cell_at memory p)
store_defined memory p cell = by_field (field_at memory p.object p.field)
  where
    by_field : (found : Option Field) → is_some (option_and_then (written memory p cell) (option_and_then cells_of found)) ≡ is_some (cell_in p.index found)
    by_field None = refl
    by_field (Some (part object)) = refl
    by_field (Some (cells type them)) =
        some_if (nat_lt p.index (length them)) (with_field p.object p.field (cells type (slice_set them p.index cell)) memory)
        ∙ (sym (some_get them p.index) ∙ sym (some_map (λ (c : Cell). (type, c)) (slice_get them p.index)))
