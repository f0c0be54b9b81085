-- What statements do to memory leaves the shapes of all objects.
use Rattle.std.proofs.Common.{◌≡◌, ℕ, zero, suc, ◌+◌, ◌≤◌, Bool, true, false, List, [], ◌∷◌, ◌++◌, map, Option, Some, None, refl, sym, ap, ◌∙◌, arith, length, take, drop, length-set, length-append, length-take, length-drop}
use Rattle.std.specs.Prelude.{if◌then◌else◌, ◌&&◌, nat_eq, nat_lt, nat_le, slice_get, slice_set, slice_range, option_and_then, is_some}
use Rattle.std.specs.List.{list_all}
use Rattle.std.proofs.lemmas.Bool.{leb-true}
use Rattle.c_meaning.specs.declared.values.Pointer.{Pointer}
use Rattle.c_meaning.specs.declared.cells.Cell.{Cell}
use Rattle.c_meaning.specs.declared.cells.CellType.{CellType}
use Rattle.c_meaning.specs.CMemory.{Field, cells, part, Object, Memory, field_at, cells_of, cells_at, object_at, with_field, store, is_set, same_type, whole_cells, copied, exists, moved, move_bytes, zero_cell, zero_field, parts_of, contains, zeroed_from, zeroed}
use Rattle.c_meaning.specs.Typed.{of_cells, of_part, field_shape, object_shape, shape_of}
use Rattle.c_mem.specs.Leaving.{Leaves}
use Rattle.c_step_run.specs.Meaning.{OnTrue}
use Rattle.c_meaning.proofs.Stores.{Stored, store_leaves}

map_set : {A B : Type 0} (g : A → B) (xs : List A) (i : ℕ) (x y : A) → slice_get xs i ≡ Some x → g y ≡ g x → map g (slice_set xs i y) ≡ map g xs
map_set g [] i x y e h = refl
map_set g (z ∷ xs) zero x y e h = let s : z ≡ x = cc (e) in ap (λ w. w ∷ map g xs) (h ∙ ap g (sym s))
map_set g (z ∷ xs) (suc i) x y e h = ap (λ ws. g z ∷ ws) (map_set g xs i x y e h)

-- A field in place of one of its shape.
field_set : (memory : Memory) (o f : ℕ) (old now : Field) → field_at memory o f ≡ Some old → field_shape now ≡ field_shape old → shape_of (with_field o f now memory) ≡ shape_of memory
field_set memory o f old now e s = by_object (slice_get memory o) refl
  where
    by_object : (found : Option Object) → slice_get memory o ≡ found → shape_of (with_field o f now memory) ≡ shape_of memory
    by_object None g = absurd (cc (rw g at e))
    by_object (Some fields) g =
        let a : object_at memory o ≡ fields = rw g refl in
        let there : slice_get fields f ≡ Some old = rw g at e in
        rw a (map_set object_shape memory o fields (slice_set fields f now) g (map_set field_shape fields f old now there s))

pub store_shape : (memory : Memory) (p : Pointer) (cell : Cell) (now : Memory) → store memory p cell ≡ Some now → shape_of now ≡ shape_of memory
store_shape memory p cell now e =
    let s : Stored memory p cell now = store_leaves memory p cell now e in
    ap shape_of s.left ∙ field_set memory p.object p.field (cells s.type s.them) (cells s.type (slice_set s.them p.index cell)) s.field (ap (of_cells s.type) (length-set s.them p.index cell))

-- `memmove`
abbrev Keeps : Memory → Option Memory → Type 0
Keeps before None = Unit {0}
Keeps before (Some now) = shape_of now ≡ shape_of before

kept_is : (before now : Memory) (o : Option Memory) → Keeps before o → o ≡ Some now → shape_of now ≡ shape_of before
kept_is before now None h e = absurd (cc (e))
kept_is before now (Some it) h e = let s : it ≡ now = cc (e) in ap shape_of (sym s) ∙ h

if_kept : (b : Bool) (before now : Memory) → (b ≡ true → shape_of now ≡ shape_of before) → Keeps before (if b then Some now else None)
if_kept true before now h = h refl
if_kept false before now h = tt

tests_hold : (a b c d : Bool) → (a && (b && (c && d))) ≡ true → (b ≡ true) × (c ≡ true)
tests_hold false b c d e = absurd (cc (e))
tests_hold true false c d e = absurd (cc (e))
tests_hold true true false d e = absurd (cc (e))
tests_hold true true true d e = (refl, refl)

length_moved : (to from count : ℕ) (target source : List Cell) → from + count ≤ length source → to + count ≤ length target
    → length (take to target ++ (slice_range source from (from + count) ++ drop (to + count) target)) ≡ length target
length_moved to from count target source h k = simp (length-append, length-take, length-drop) (omega (arith, h, k))

module _ (memory : Memory) (to from : Pointer) where
  copied_kept : (count : ℕ) (target source : CellType × List Cell) → field_at memory to.object to.field ≡ Some (cells target.0 target.1) → Keeps memory (copied memory to from count target source)
  copied_kept count target source g = if_kept _ memory _ same_size
    where
      them : List Cell
      them = take to.index target.1 ++ (slice_range source.1 from.index (from.index + count) ++ drop (to.index + count) target.1)

      same_size : (same_type target.0 source.0 && (nat_le (from.index + count) (length source.1) && (nat_le (to.index + count) (length target.1) && list_all is_set (slice_range source.1 from.index (from.index + count))))) ≡ true
          → shape_of (with_field to.object to.field (cells target.0 them) memory) ≡ shape_of memory
      same_size e =
          let t : (nat_le (from.index + count) (length source.1) ≡ true) × (nat_le (to.index + count) (length target.1) ≡ true) =
          tests_hold (same_type target.0 source.0) (nat_le (from.index + count) (length source.1)) (nat_le (to.index + count) (length target.1)) (list_all is_set (slice_range source.1 from.index (from.index + count))) e in
          let a : from.index + count ≤ length source.1 = leb-true (from.index + count) (length source.1) t.0 in
          let b : to.index + count ≤ length target.1 = leb-true (to.index + count) (length target.1) t.1 in
          field_set memory to.object to.field (cells target.0 target.1) (cells target.0 them) g (ap (of_cells target.0) (length_moved to.index from.index count target.1 source.1 a b))

  moved_kept : (bytes : ℕ) (target source : CellType × List Cell) → field_at memory to.object to.field ≡ Some (cells target.0 target.1) → Keeps memory (moved memory to from bytes target source)
  moved_kept bytes target source g = by_test (nat_eq bytes 0)
    where
      counted : (o : Option ℕ) → Keeps memory (option_and_then (λ count. copied memory to from count target source) o)
      counted None = tt
      counted (Some count) = copied_kept count target source g

      by_test : (b : Bool) → Keeps memory (if b then (if exists target to.index && exists source from.index then Some memory else None) else option_and_then (λ count. copied memory to from count target source) (whole_cells source.0 bytes))
      by_test true = if_kept (exists target to.index && exists source from.index) memory memory (λ e. refl)
      by_test false = counted (whole_cells source.0 bytes)

  bytes_kept : (bytes : ℕ) → Keeps memory (move_bytes memory to from bytes)
  bytes_kept bytes = by_target (field_at memory to.object to.field) refl
    where
      by_source : (type : CellType) (them : List Cell) → field_at memory to.object to.field ≡ Some (cells type them) → (source : Option Field)
          → Keeps memory (option_and_then (λ it. moved memory to from bytes (type, them) it) (option_and_then cells_of source))
      by_source type them g None = tt
      by_source type them g (Some (part object)) = tt
      by_source type them g (Some (cells kind others)) = moved_kept bytes (type, them) (kind, others) g

      by_target : (target : Option Field) → field_at memory to.object to.field ≡ target → Keeps memory (option_and_then (λ it. option_and_then (λ source. moved memory to from bytes it source) (cells_at memory from.object from.field)) (option_and_then cells_of target))
      by_target None g = tt
      by_target (Some (part object)) g = tt
      by_target (Some (cells type them)) g = by_source type them g (field_at memory from.object from.field)

pub move_shape : (memory : Memory) (to from : Pointer) (bytes : ℕ) (now : Memory) → move_bytes memory to from bytes ≡ Some now → shape_of now ≡ shape_of memory
move_shape memory to from bytes now e = kept_is memory now (move_bytes memory to from bytes) (bytes_kept memory to from bytes) e

-- `memset`
length_map : {A B : Type 0} (g : A → B) (xs : List A) → length (map g xs) ≡ length xs
length_map g [] = refl
length_map g (x ∷ xs) = ap suc (length_map g xs)

zero_object : (object : Object) → object_shape (map zero_field object) ≡ object_shape object
zero_object [] = refl
zero_object (cells type them ∷ fields) = ap (λ n. of_cells type n ∷ object_shape (map zero_field fields)) (length_map (λ _. zero_cell type) them) ∙ ap (λ s. of_cells type (length them) ∷ s) (zero_object fields)
zero_object (part o ∷ fields) = ap (λ s. of_part o ∷ s) (zero_object fields)

zero_front : (b : Bool) (object : Object) (before now : Memory) → shape_of now ≡ shape_of before → shape_of ((if b then map zero_field object else object) ∷ now) ≡ shape_of (object ∷ before)
zero_front true object before now k = ap (λ s. s ∷ shape_of now) (zero_object object) ∙ ap (λ s. object_shape object ∷ s) k
zero_front false object before now k = ap (λ s. object_shape object ∷ s) k

zero_from : (number : ℕ) (wanted : List ℕ) (memory : Memory) → shape_of (zeroed_from number wanted memory) ≡ shape_of memory
zero_from number wanted [] = refl
zero_from number wanted (object ∷ objects) = zero_front (contains wanted number) object objects _ (zero_from (number + 1) (if contains wanted number then parts_of object ++ wanted else wanted) objects)

pub zero_shape : (memory : Memory) (object : ℕ) (now : Memory) → zeroed memory object ≡ Some now → shape_of now ≡ shape_of memory
zero_shape memory object now e = kept_is memory now (zeroed memory object) (if_kept (nat_lt object (length memory)) memory (zeroed_from 0 (object ∷ []) memory) (λ _. zero_from 0 (object ∷ []) memory)) e

-- Memory of the same shape has as many objects.
pub shape_length : (memory now : Memory) → shape_of now ≡ shape_of memory → length now ≡ length memory
shape_length memory now e = sym (length_map object_shape now) ∙ (ap length e ∙ length_map object_shape memory)

-- The same of what a call has left.
pub assigned_shape : (given : Option Memory) (old new : Memory) (r : Option (Unit {0})) → Leaves given old r new → ((now : Memory) → given ≡ Some now → shape_of now ≡ shape_of old) → OnTrue (is_some r) (shape_of new ≡ shape_of old)
assigned_shape given old new None h k = tt
assigned_shape given old new (Some done) h k = k new h

pub moves_shape : (memory : Memory) (to from : Pointer) (bytes : ℕ) (new : Memory) (r : Option (Unit {0})) → Leaves (move_bytes memory to from bytes) memory r new → OnTrue (is_some r) (shape_of new ≡ shape_of memory)
moves_shape memory to from bytes new r h = assigned_shape (move_bytes memory to from bytes) memory new r h (move_shape memory to from bytes)

pub zeroes_shape : (memory : Memory) (object : ℕ) (new : Memory) (r : Option (Unit {0})) → Leaves (zeroed memory object) memory r new → OnTrue (is_some r) (shape_of new ≡ shape_of memory)
zeroes_shape memory object new r h = assigned_shape (zeroed memory object) memory new r h (zero_shape memory object)

pub stores_shape : (memory : Memory) (p : Pointer) (cell : Cell) (new : Memory) (r : Option (Unit {0})) → Leaves (store memory p cell) memory r new → OnTrue (is_some r) (shape_of new ≡ shape_of memory)
stores_shape memory p cell new r h = assigned_shape (store memory p cell) memory new r h (store_shape memory p cell)
