-- What a call can't reach stays as it was: changes of memory.
use Rattle.std.proofs.Common.{◌≡◌, ℕ, zero, suc, ◌+◌, ◌-◌, Bool, true, false, List, [], ◌∷◌, ◌++◌, map, Option, Some, None, refl, subst, ap, ◌∙◌, arith, length, take, drop, length-set}
use Rattle.std.specs.Prelude.{if◌then◌else◌, ◌&&◌, ◌||◌, nat_eq, nat_lt, slice_get, slice_set, slice_range, option_and_then}
use Rattle.std.proofs.lemmas.Bool.Decides.{nat_tests}
use Rattle.c_meaning.specs.CValues.{Pointer, CValue}
use Rattle.c_meaning.specs.CMemory.{CellType, u8, u16, u32, u64, flag, pointer, Cell, Field, cells, part, Object, Memory, cell_of, cells_at, cell_at, with_field, written, store, stored, whole_cells, copied, exists, moved, move_bytes, zero_cell, zero_field, parts_of, contains, zeroed_from, zeroed}
use Rattle.c_meaning.specs.Reach.{CellIn, CellsIn, FieldIn, ObjectIn, FoundIn, IsClosed, ValueIn, Keeps}
use Rattle.c_meaning.proofs.Stores.{equal_or_not, object_other, object_same, object_none}
use Rattle.c_meaning.proofs.ReachExprs.{CelsIn, OneIn, cells_at_in, cell_of_in}

module _ (inside : ℕ → Bool) where
  -- Memory after a change, where that is defined.
  abbrev pub LeftIn : Memory → Option Memory → Type 0
  LeftIn before None = Unit {0}
  LeftIn before (Some now) = Keeps inside before now

  pub keeps_self : (memory : Memory) → IsClosed inside memory → Keeps inside memory memory
  keeps_self memory closed = record { outside = λ k e. refl; size = refl; closed = closed }

  pub keeps_then : (a b c : Memory) → Keeps inside a b → Keeps inside b c → Keeps inside a c
  keeps_then a b c h k = record { outside = λ i e. k.outside i e ∙ h.outside i e; size = k.size ∙ h.size; closed = k.closed }

  set_in : (fields : Object) (f : ℕ) (now : Field) → ObjectIn inside fields → FieldIn inside now → ObjectIn inside (slice_set fields f now)
  set_in [] f now h k = h
  set_in (x ∷ xs) zero now h k = (k, h.1)
  set_in (x ∷ xs) (suc f) now h k = (h.0, set_in xs f now h.1 k)

  not_inside : (o k : ℕ) → inside o ≡ true → inside k ≡ false → o ≡ k → ⊥
  not_inside o k h g e = cc (h, g, e)

  pub with_field_keeps : (memory : Memory) → IsClosed inside memory → (o f : ℕ) (now : Field) → inside o ≡ true → FieldIn inside now → Keeps inside memory (with_field o f now memory)
  with_field_keeps memory closed o f now h g = record { outside = λ k e. object_other memory o k f now (not_inside o k h e); size = length-set memory o _; closed = record { by = at_object } }
    where
      same : (found : Option Object) → slice_get memory o ≡ found → FoundIn inside found → FoundIn inside (slice_get (with_field o f now memory) o)
      same None e k = rw (object_none memory o o f now e, e) tt
      same (Some fields) e k = rw (object_same memory o f now fields e) (set_in fields f now k g)

      at_object : (k : ℕ) → inside k ≡ true → FoundIn inside (slice_get (with_field o f now memory) k)
      at_object k e = equal_or_not o k (λ p. subst (λ (x : ℕ). FoundIn inside (slice_get (with_field o f now memory) x)) p (same (slice_get memory o) refl (closed.by o h)))
          (λ n. rw (object_other memory o k f now n) (closed.by k e))

  set_cell_in : (them : List Cell) (i : ℕ) (c : Cell) → CellsIn inside them → CellIn inside c → CellsIn inside (slice_set them i c)
  set_cell_in [] i c h k = h
  set_cell_in (x ∷ xs) zero c h k = (k, h.1)
  set_cell_in (x ∷ xs) (suc i) c h k = (h.0, set_cell_in xs i c h.1 k)

  if_left : (b : Bool) (before now : Memory) → Keeps inside before now → LeftIn before (if b then Some now else None)
  if_left true before now h = h
  if_left false before now h = tt

  module _ (memory : Memory) (closed : IsClosed inside memory) where
    written_in : (p : Pointer) (c : Cell) (found : Option (CellType × List Cell)) → inside p.object ≡ true → CellIn inside c → CelsIn inside found → LeftIn memory (option_and_then (written memory p c) found)
    written_in p c None h k g = tt
    written_in p c (Some it) h k g = if_left (nat_lt p.index (length it.1)) memory _ (with_field_keeps memory closed p.object p.field _ h (set_cell_in it.1 p.index c g k))

    pub store_in : (p : Pointer) (c : Cell) → inside p.object ≡ true → CellIn inside c → LeftIn memory (store memory p c)
    store_in p c h k = written_in p c (cells_at memory p.object p.field) h k (cells_at_in inside memory closed p.object p.field h)

    stored_one : (p : Pointer) (c : Option Cell) → inside p.object ≡ true → OneIn inside c → LeftIn memory (option_and_then (λ cell. store memory p cell) c)
    stored_one p None h k = tt
    stored_one p (Some c) h k = store_in p c h k

    converted_in : (found : Option (CellType × Cell)) (v : CValue) → ValueIn inside v → OneIn inside (option_and_then (λ it. cell_of it.0 v) found)
    converted_in None v h = tt
    converted_in (Some it) v h = cell_of_in inside it.0 v h

    pub stored_in : (p : Pointer) (v : CValue) → inside p.object ≡ true → ValueIn inside v → LeftIn memory (stored memory p v)
    stored_in p v h k = stored_one p _ h (converted_in (cell_at memory p) v k)

    -- memmove
    take_in : (n : ℕ) (them : List Cell) → CellsIn inside them → CellsIn inside (take n them)
    take_in zero them h = tt
    take_in (suc n) [] h = tt
    take_in (suc n) (x ∷ xs) h = (h.0, take_in n xs h.1)

    drop_in : (n : ℕ) (them : List Cell) → CellsIn inside them → CellsIn inside (drop n them)
    drop_in zero them h = h
    drop_in (suc n) [] h = tt
    drop_in (suc n) (x ∷ xs) h = drop_in n xs h.1

    append_in : (xs ys : List Cell) → CellsIn inside xs → CellsIn inside ys → CellsIn inside (xs ++ ys)
    append_in [] ys h k = k
    append_in (x ∷ xs) ys h k = (h.0, append_in xs ys h.1 k)

    copied_in : (to from : Pointer) (count : ℕ) (target source : CellType × List Cell) → inside to.object ≡ true → CellsIn inside target.1 → CellsIn inside source.1 → LeftIn memory (copied memory to from count target source)
    copied_in to from count target source h g k = if_left _ memory _ (with_field_keeps memory closed to.object to.field _ h
        (append_in (take to.index target.1) _ (take_in to.index target.1 g) (append_in (slice_range source.1 from.index (from.index + count)) _ (take_in ((from.index + count) - from.index) (drop from.index source.1) (drop_in from.index source.1 k)) (drop_in (to.index + count) target.1 g))))

    moved_in : (to from : Pointer) (bytes : ℕ) (target source : CellType × List Cell) → inside to.object ≡ true → CellsIn inside target.1 → CellsIn inside source.1 → LeftIn memory (moved memory to from bytes target source)
    moved_in to from bytes target source h g k = by_test (nat_eq bytes 0)
      where
        counted : (o : Option ℕ) → LeftIn memory (option_and_then (λ count. copied memory to from count target source) o)
        counted None = tt
        counted (Some count) = copied_in to from count target source h g k

        by_test : (b : Bool) → LeftIn memory (if b then (if exists target to.index && exists source from.index then Some memory else None) else option_and_then (λ count. copied memory to from count target source) (whole_cells source.0 bytes))
        by_test true = if_left (exists target to.index && exists source from.index) memory memory (keeps_self memory closed)
        by_test false = counted (whole_cells source.0 bytes)

    pub move_in : (to from : Pointer) (bytes : ℕ) → inside to.object ≡ true → inside from.object ≡ true → LeftIn memory (move_bytes memory to from bytes)
    move_in to from bytes h g = by_target (cells_at memory to.object to.field) (cells_at_in inside memory closed to.object to.field h)
      where
        by_source : (target : CellType × List Cell) → CellsIn inside target.1 → (source : Option (CellType × List Cell)) → CelsIn inside source → LeftIn memory (option_and_then (λ it. moved memory to from bytes target it) source)
        by_source target k None e = tt
        by_source target k (Some it) e = moved_in to from bytes target it h k e

        by_target : (target : Option (CellType × List Cell)) → CelsIn inside target → LeftIn memory (option_and_then (λ it. option_and_then (λ source. moved memory to from bytes it source) (cells_at memory from.object from.field)) target)
        by_target None k = tt
        by_target (Some it) k = by_source it k (cells_at memory from.object from.field) (cells_at_in inside memory closed from.object from.field g)

  -- memset
  abbrev AllInside : List ℕ → Type 0
  AllInside [] = Unit {0}
  AllInside (k ∷ ks) = (inside k ≡ true) × AllInside ks

  append_inside : (xs ys : List ℕ) → AllInside xs → AllInside ys → AllInside (xs ++ ys)
  append_inside [] ys h k = k
  append_inside (x ∷ xs) ys h k = (h.0, append_inside xs ys h.1 k)

  parts_inside : (object : Object) → ObjectIn inside object → AllInside (parts_of object)
  parts_inside [] h = tt
  parts_inside (cells type them ∷ fields) h = parts_inside fields h.1
  parts_inside (part o ∷ fields) h = (h.0, parts_inside fields h.1)

  wanted_by : (b : Bool) (x k : ℕ) (rest : Bool) → nat_eq k x ≡ b → inside x ≡ true → (b || rest) ≡ true → (rest ≡ true → inside k ≡ true) → inside k ≡ true
  wanted_by true x k rest t h e later = let s : x ≡ k = grind (arith, nat_tests, t) in subst (λ (y : ℕ). inside y ≡ true) s h
  wanted_by false x k rest t h e later = later e

  wanted_inside : (wanted : List ℕ) (k : ℕ) → AllInside wanted → contains wanted k ≡ true → inside k ≡ true
  wanted_inside [] k h e = absurd (cc (e))
  wanted_inside (x ∷ xs) k h e = wanted_by (nat_eq k x) x k (contains xs k) refl h.0 e (λ f. wanted_inside xs k h.1 f)

  zero_cell_in : (type : CellType) → CellIn inside (zero_cell type)
  zero_cell_in u8 = tt
  zero_cell_in u16 = tt
  zero_cell_in u32 = tt
  zero_cell_in u64 = tt
  zero_cell_in flag = tt
  zero_cell_in pointer = tt

  zero_cells_in : (type : CellType) (them : List Cell) → CellsIn inside (map (λ _. zero_cell type) them)
  zero_cells_in type [] = tt
  zero_cells_in type (x ∷ xs) = (zero_cell_in type, zero_cells_in type xs)

  zero_object_in : (object : Object) → ObjectIn inside object → ObjectIn inside (map zero_field object)
  zero_object_in [] h = tt
  zero_object_in (cells type them ∷ fields) h = (zero_cells_in type them, zero_object_in fields h.1)
  zero_object_in (part o ∷ fields) h = (h.0, zero_object_in fields h.1)

  -- what the pass leaves of the objects from a number on
  record Passed (number : ℕ) (before now : Memory) : Type 0 where
    outside : (k : ℕ) → inside (number + k) ≡ false → slice_get now k ≡ slice_get before k
    size : length now ≡ length before
    closed : (k : ℕ) → inside (number + k) ≡ true → FoundIn inside (slice_get now k)

  passed_front : (number : ℕ) (b : Bool) (object : Object) (before now : Memory) → (b ≡ true → inside number ≡ true) → (inside number ≡ true → ObjectIn inside object) → Passed (number + 1) before now
      → Passed number (object ∷ before) ((if b then map zero_field object else object) ∷ now)
  passed_front number b object before now h g p = record { outside = outside; size = ap suc p.size; closed = closed }
    where
      here : ℕ → ℕ
      here k = number + k

      front : (c : Bool) → b ≡ c → inside number ≡ false → Some (if c then map zero_field object else object) ≡ Some object
      front true e f = absurd (cc (h e, f))
      front false e f = refl

      outside : (k : ℕ) → inside (number + k) ≡ false → slice_get ((if b then map zero_field object else object) ∷ now) k ≡ slice_get (object ∷ before) k
      outside zero e = let n : number + 0 ≡ number = omega arith in front b refl (rw n at e)
      outside (suc k) e = let n : number + suc k ≡ number + 1 + k = omega arith in p.outside k (rw n at e)

      zero_in : (c : Bool) → ObjectIn inside object → ObjectIn inside (if c then map zero_field object else object)
      zero_in true o = zero_object_in object o
      zero_in false o = o

      closed : (k : ℕ) → inside (number + k) ≡ true → FoundIn inside (slice_get ((if b then map zero_field object else object) ∷ now) k)
      closed zero e = let n : number + 0 ≡ number = omega arith in zero_in b (g (rw n at e))
      closed (suc k) e = let n : number + suc k ≡ number + 1 + k = omega arith in p.closed k (rw n at e)

  zeroed_passes : (number : ℕ) (wanted : List ℕ) (memory : Memory) → AllInside wanted → ((k : ℕ) → inside (number + k) ≡ true → FoundIn inside (slice_get memory k)) → Passed number memory (zeroed_from number wanted memory)
  zeroed_passes number wanted [] h g = record { outside = λ k e. refl; size = refl; closed = g }
  zeroed_passes number wanted (object ∷ objects) h g =
      passed_front number (contains wanted number) object objects _ (wanted_inside wanted number h) this
      (zeroed_passes (number + 1) (if contains wanted number then parts_of object ++ wanted else wanted) objects (more (contains wanted number) refl) later)
    where
      this : inside number ≡ true → ObjectIn inside object
      this e = let n : number + 0 ≡ number = omega arith in g 0 (rw n e)

      more : (b : Bool) → contains wanted number ≡ b → AllInside (if b then parts_of object ++ wanted else wanted)
      more true e = append_inside (parts_of object) wanted (parts_inside object (this (wanted_inside wanted number h e))) h
      more false e = h

      later : (k : ℕ) → inside (number + 1 + k) ≡ true → FoundIn inside (slice_get objects k)
      later k e = let n : number + suc k ≡ number + 1 + k = omega arith in g (suc k) (rw n e)

  pub zeroed_in : (memory : Memory) → IsClosed inside memory → (object : ℕ) → inside object ≡ true → LeftIn memory (zeroed memory object)
  zeroed_in memory closed object h = if_left (nat_lt object (length memory)) memory _ keeps
    where
      passes : Passed 0 memory (zeroed_from 0 (object ∷ []) memory)
      passes = zeroed_passes 0 (object ∷ []) memory (h, tt) (λ k e. let n : 0 + k ≡ k = omega arith in closed.by k (rw n at e))

      keeps : Keeps inside memory (zeroed_from 0 (object ∷ []) memory)
      keeps = record { outside = λ k e. let n : 0 + k ≡ k = omega arith in passes.outside k (rw n e); size = passes.size; closed = record { by = λ k e. let n : 0 + k ≡ k = omega arith in passes.closed k (rw n e) } }
