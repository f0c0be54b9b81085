-- Cells that are moved.
use Rattle.std.proofs.Common.{inl, inr, ◌≡◌, ℕ, zero, suc, ◌+◌, ◌-◌, ◌≤◌, Bool, true, false, List, [], ◌∷◌, ◌++◌, length, take, drop, Option, Some, None, refl, sym, subst, ap, ◌∙◌, arith}
use Rattle.std.specs.Prelude.{if◌then◌else◌, ◌&&◌, nat_eq, nat_le, slice_get, slice_set, slice_range, option_map, option_and_then, unwrap_or}
use Rattle.std.specs.List.{list_all, copy_within}
use Rattle.std.proofs.lemmas.List.{append_assoc, take-append-drop, set-set}
use Rattle.std.proofs.lemmas.Bool.Decides.{nat_tests}
use Rattle.c_meaning.specs.declared.cells.CellType.{CellType}
use Rattle.c_meaning.specs.declared.cells.Cell.{Cell}
use Rattle.c_meaning.specs.CMemory.{Field, cells, part, Object, Memory, field_at, cells_of, object_at, same_type, is_set, whole_cells, copied, moved, move_bytes}
use Rattle.c_meaning.specs.declared.values.Pointer.{Pointer}
use Rattle.c_mem.specs.Leaving.{Leaves}
use Rattle.c_mem.proofs.Passing.{equal_or_not}
use Rattle.c_mem.specs.Moving.{counted, count_moved, paste_cells, pasted, PastesCells, PastesIn, moved_field, moved_at, moved_from, same_field, Swaps}
use Rattle.c_mem.proofs.Stored.{leaves_at, leaves_same, put_back}

-- std's form of the same.
pub within_cells : {A : Type 0} (xs : List A) (to from count : ℕ) → copy_within xs from (from + count) to ≡ paste_cells xs to xs from count
within_cells xs to from count =
    let n : (from + count) - from ≡ count = omega arith in
    ap (λ (m : ℕ). (take to xs ++ take ((from + count) - from) (drop from xs)) ++ drop (to + m) xs) n
    ∙ append_assoc (take to xs) (take ((from + count) - from) (drop from xs)) (drop (to + count) xs)

-- What is counted is there.
counted_fits : (type : CellType) (target : List Cell) (to : ℕ) (source_type : CellType) (source : List Cell) (from bytes n : ℕ) → counted type target to source_type source from bytes ≡ Some n → PastesCells type target to source_type source from n
counted_fits type target to source_type source from bytes n e = by_zero (nat_eq bytes 0) e
  where
    fits_both : (count : ℕ) (a p q d : Bool) → same_type type source_type ≡ a → nat_le (from + count) (length source) ≡ p → nat_le (to + count) (length target) ≡ q → list_all is_set (slice_range source from (from + count)) ≡ d
        → (if a && (p && (q && d)) then Some count else None) ≡ Some n → PastesCells type target to source_type source from n
    fits_both count false p q d s x y z h = absurd (cc (h))
    fits_both count true false q d s x y z h = absurd (cc (h))
    fits_both count true true false d s x y z h = absurd (cc (h))
    fits_both count true true true false s x y z h = absurd (cc (h))
    fits_both count true true true true s x y z h =
        let m : count ≡ n = cc (h) in
        subst (λ (k : ℕ). PastesCells type target to source_type source from k) m (record {
          fits = grind (arith, nat_tests, y);
          within = grind (arith, nat_tests, x);
          all_set = inr (s, z);
        })

    none_moved : (p q : Bool) → nat_le to (length target) ≡ p → nat_le from (length source) ≡ q → (if p && q then Some 0 else None) ≡ Some n → PastesCells type target to source_type source from n
    none_moved false q a b h = absurd (cc (h))
    none_moved true false a b h = absurd (cc (h))
    none_moved true true a b h =
        let m : 0 ≡ n = cc (h) in
        let x : to ≤ length target = grind (arith, nat_tests, a) in
        let y : from ≤ length source = grind (arith, nat_tests, b) in
        record { fits = omega (arith, x, m); within = omega (arith, y, m); all_set = inl (sym m) }

    some_moved : (count : Option ℕ) → option_and_then (λ count. if same_type type source_type && (nat_le (from + count) (length source) && (nat_le (to + count) (length target) && list_all is_set (slice_range source from (from + count)))) then Some count else None) count ≡ Some n → PastesCells type target to source_type source from n
    some_moved None h = absurd (cc (h))
    some_moved (Some count) h = fits_both count (same_type type source_type) (nat_le (from + count) (length source)) (nat_le (to + count) (length target)) (list_all is_set (slice_range source from (from + count))) refl refl refl refl h

    by_zero : (b : Bool)
        → (if b then (if nat_le to (length target) && nat_le from (length source) then Some 0 else None)
        else option_and_then (λ count. if same_type type source_type && (nat_le (from + count) (length source) && (nat_le (to + count) (length target) && list_all is_set (slice_range source from (from + count)))) then Some count else None) (whole_cells source_type bytes)) ≡ Some n
        → PastesCells type target to source_type source from n
    by_zero true h = none_moved (nat_le to (length target)) (nat_le from (length source)) refl refl h
    by_zero false h = some_moved (whole_cells source_type bytes) h

pub moves_fit : (target : Field) (to : ℕ) (source : Field) (from bytes n : ℕ) → count_moved target to source from bytes ≡ Some n → PastesIn target to source from n
moves_fit (cells type target) to (cells source_type source) from bytes n e = counted_fits type target to source_type source from bytes n e
moves_fit (cells type target) to (part object) from bytes n e = tt
moves_fit (part object) to source from bytes n e = tt

pub move_field : (object : Object) (field to from bytes : ℕ) (it now : Field) (r : Option (Unit {0})) → slice_get object field ≡ Some it
    → Leaves (moved_field it to it from bytes) it r now → Leaves (moved_at object field to from bytes) object r (slice_set object field now)
move_field object field to from bytes it now r e h =
    leaves_same (option_and_then (λ (x : Field). option_map (slice_set object field) (moved_field it to it from bytes)) (slice_get object field)) (moved_at object field to from bytes) object (slice_set object field now) r
    (ap (option_and_then (λ (x : Field). option_map (slice_set object field) (moved_field it to it from bytes))) e ∙ sym (ap (option_and_then (λ (x : Field). option_map (λ now. slice_set object field now) (moved_field x to x from bytes))) e))
    (leaves_at object field it now (moved_field it to it from bytes) r e h)

-- What stands in a list after a write.
set_there : {A : Type 0} (xs : List A) (i : ℕ) (x y : A) → slice_get xs i ≡ Some y → slice_get (slice_set xs i x) i ≡ Some x
set_there [] i x y e = absurd (cc (e))
set_there (z ∷ zs) zero x y e = refl
set_there (z ∷ zs) (suc i) x y e = set_there zs i x y e

set_elsewhere : {A : Type 0} (xs : List A) (i j : ℕ) (x : A) → (i ≡ j → ⊥) → slice_get (slice_set xs i x) j ≡ slice_get xs j
set_elsewhere [] i j x h = refl
set_elsewhere (z ∷ zs) zero zero x h = absurd (h refl)
set_elsewhere (z ∷ zs) zero (suc j) x h = refl
set_elsewhere (z ∷ zs) (suc i) zero x h = refl
set_elsewhere (z ∷ zs) (suc i) (suc j) x h = set_elsewhere zs i j x (λ e. h (ap suc e))

-- What `memmove` leaves in memory, where the field that cells come to is found.
pub none_pasted : {A : Type 0} (xs : List A) (to : ℕ) (ys : List A) (from : ℕ) → paste_cells xs to ys from 0 ≡ xs
none_pasted xs to ys from =
    let n : (from + 0) - from ≡ 0 = omega arith in
    let m : to + 0 ≡ to = omega arith in
    ap (λ (k : ℕ). take to xs ++ (take k (drop from ys) ++ drop (to + 0) xs)) n ∙ (ap (λ (k : ℕ). take to xs ++ drop k xs) m ∙ take-append-drop to xs)

module _ (memory : Memory) (to from : Pointer) (bytes : ℕ) (it : Object) (there : slice_get memory to.object ≡ Some it) where
  -- Memory with another field in place of the one that cells come to.
  abbrev now_with : Field → Memory
  now_with now = slice_set memory to.object (slice_set it to.field now)

  as_before : (target : Field) → slice_get it to.field ≡ Some target → now_with target ≡ memory
  as_before target e = ap (slice_set memory to.object) (put_back it to.field target e) ∙ put_back memory to.object it there

  object_is : object_at memory to.object ≡ it
  object_is = ap (λ (found : Option Object). unwrap_or found []) there

  moved_cells : (type : CellType) (xs : List Cell) (source_type : CellType) (ys : List Cell) → slice_get it to.field ≡ Some (cells type xs)
      → moved memory to from bytes (type, xs) (source_type, ys) ≡ option_map now_with (moved_field (cells type xs) to.index (cells source_type ys) from.index bytes)
  moved_cells type xs source_type ys e = by_zero (nat_eq bytes 0)
    where
      none_moved : (b : Bool) → (if b then Some memory else None) ≡ option_map now_with (option_map (pasted (cells type xs) to.index (cells source_type ys) from.index) (if b then Some 0 else None))
      none_moved false = refl
      none_moved true = ap Some (sym (ap (λ (zs : List Cell). now_with (cells type zs)) (none_pasted xs to.index ys from.index) ∙ as_before (cells type xs) e))

      one_count : (count : ℕ) (b : Bool)
          → (if b then Some (slice_set memory to.object (slice_set (object_at memory to.object) to.field (cells type (paste_cells xs to.index ys from.index count)))) else None)
          ≡ option_map now_with (option_map (pasted (cells type xs) to.index (cells source_type ys) from.index) (if b then Some count else None))
      one_count count false = refl
      one_count count true = ap (λ (o : Object). Some (slice_set memory to.object (slice_set o to.field (cells type (paste_cells xs to.index ys from.index count))))) object_is

      some_moved : (counts : Option ℕ)
          → option_and_then (λ count. copied memory to from count (type, xs) (source_type, ys)) counts
          ≡ option_map now_with (option_map (pasted (cells type xs) to.index (cells source_type ys) from.index) (option_and_then (λ count. if same_type type source_type && (nat_le (from.index + count) (length ys) && (nat_le (to.index + count) (length xs) && list_all is_set (slice_range ys from.index (from.index + count)))) then Some count else None) counts))
      some_moved None = refl
      some_moved (Some count) = one_count count (same_type type source_type && (nat_le (from.index + count) (length ys) && (nat_le (to.index + count) (length xs) && list_all is_set (slice_range ys from.index (from.index + count)))))

      by_zero : (b : Bool)
          → (if b then (if nat_le to.index (length xs) && nat_le from.index (length ys) then Some memory else None) else option_and_then (λ count. copied memory to from count (type, xs) (source_type, ys)) (whole_cells source_type bytes))
          ≡ option_map now_with (option_map (pasted (cells type xs) to.index (cells source_type ys) from.index)
          (if b then (if nat_le to.index (length xs) && nat_le from.index (length ys) then Some 0 else None)
          else option_and_then (λ count. if same_type type source_type && (nat_le (from.index + count) (length ys) && (nat_le (to.index + count) (length xs) && list_all is_set (slice_range ys from.index (from.index + count)))) then Some count else None) (whole_cells source_type bytes)))
      by_zero true = none_moved (nat_le to.index (length xs) && nat_le from.index (length ys))
      by_zero false = some_moved (whole_cells source_type bytes)

  moves_to : Option Field → Option Field → Option Memory
  moves_to target source = option_and_then (λ (t : CellType × List Cell). option_and_then (λ (s : CellType × List Cell). moved memory to from bytes t s) (option_and_then cells_of source)) (option_and_then cells_of target)

  moves_as : (target : Field) (source : Option Field) → slice_get it to.field ≡ Some target
      → moves_to (Some target) source ≡ option_map now_with (option_and_then (λ s. moved_field target to.index s from.index bytes) source)
  unfolding moves_to
  moves_as (part k) None e = refl
  moves_as (part k) (Some source) e = refl
  moves_as (cells type xs) None e = refl
  moves_as (cells type xs) (Some (part k)) e = refl
  moves_as (cells type xs) (Some (cells source_type ys)) e = moved_cells type xs source_type ys e

  target_is : field_at memory to.object to.field ≡ slice_get it to.field
  target_is = ap (λ (found : Option Object). option_and_then (λ (fields : Object). slice_get fields to.field) found) there

  pub moves_here : (target : Field) → slice_get it to.field ≡ Some target → move_bytes memory to from bytes ≡ option_map now_with (moved_from target to.index memory from bytes)
  unfolding moves_to
  moves_here target e = ap (λ (t : Option Field). moves_to t (field_at memory from.object from.field)) (target_is ∙ e) ∙ moves_as target (field_at memory from.object from.field) e

  pub moves_nowhere : slice_get it to.field ≡ None → move_bytes memory to from bytes ≡ None
  unfolding moves_to
  moves_nowhere e = ap (λ (t : Option Field). moves_to t (field_at memory from.object from.field)) (target_is ∙ e)

  leaves_with : (target now : Field) (r : Option (Unit {0})) → slice_get it to.field ≡ Some target → Leaves (moved_from target to.index memory from bytes) target r now → Leaves (move_bytes memory to from bytes) memory r (now_with now)
  leaves_with target now None e h = (moves_here target e ∙ ap (option_map now_with) h.0, ap now_with h.1 ∙ as_before target e)
  leaves_with target now (Some done) e h = moves_here target e ∙ ap (option_map now_with) h

  -- Within one field.
  pub moves_within : (now : Object) (r : Option (Unit {0})) → from.object ≡ to.object → from.field ≡ to.field
      → Leaves (moved_at it to.field to.index from.index bytes) it r now → Leaves (move_bytes memory to from bytes) memory r (slice_set memory to.object now)
  moves_within now r a b h =
      leaves_same (option_and_then (λ (x : Object). option_map (slice_set memory to.object) (moved_at it to.field to.index from.index bytes)) (slice_get memory to.object)) (move_bytes memory to from bytes) memory (slice_set memory to.object now) r
      (ap (option_and_then (λ (x : Object). option_map (slice_set memory to.object) (moved_at it to.field to.index from.index bytes))) there ∙ sym (by_field (slice_get it to.field) refl))
      (leaves_at memory to.object it now (moved_at it to.field to.index from.index bytes) r there h)
    where
      source_is : field_at memory from.object from.field ≡ slice_get it to.field
      source_is = ap (λ (o : ℕ). field_at memory o from.field) a ∙ (ap (λ (f : ℕ). field_at memory to.object f) b ∙ target_is)

      twice : (o : Option Field) → option_map now_with o ≡ option_map (slice_set memory to.object) (option_map (λ (now : Field). slice_set it to.field now) o)
      twice None = refl
      twice (Some x) = refl

      by_field : (found : Option Field) → slice_get it to.field ≡ found → move_bytes memory to from bytes ≡ option_map (slice_set memory to.object) (moved_at it to.field to.index from.index bytes)
      by_field None e = moves_nowhere e ∙ sym (ap (λ (t : Option Field). option_map (slice_set memory to.object) (option_and_then (λ (x : Field). option_map (λ (now : Field). slice_set it to.field now) (moved_field x to.index x from.index bytes)) t)) e)
      by_field (Some t) e = moves_here t e
          ∙ (ap (λ (s : Option Field). option_map now_with (option_and_then (λ (x : Field). moved_field t to.index x from.index bytes) s)) (source_is ∙ e)
          ∙ (twice (moved_field t to.index t from.index bytes)
          ∙ sym (ap (λ (s : Option Field). option_map (slice_set memory to.object) (option_and_then (λ (x : Field). option_map (λ (now : Field). slice_set it to.field now) (moved_field x to.index x from.index bytes)) s)) e)))

  -- Between two fields, of which the one is out of memory meanwhile.
  field_apart : (z : Field) → (to.object ≡ from.object → to.field ≡ from.field → ⊥) → field_at (now_with z) from.object from.field ≡ field_at memory from.object from.field
  field_apart z h = equal_or_not to.object from.object same other
    where
      same : to.object ≡ from.object → field_at (now_with z) from.object from.field ≡ field_at memory from.object from.field
      same a =
          let e : slice_get (now_with z) to.object ≡ Some (slice_set it to.field z) = set_there memory to.object (slice_set it to.field z) it there in
          subst (λ (o : ℕ). field_at (now_with z) o from.field ≡ field_at memory o from.field) a
          (ap (option_and_then (λ (fields : Object). slice_get fields from.field)) e
          ∙ (set_elsewhere it to.field from.field z (h a) ∙ sym (ap (option_and_then (λ (fields : Object). slice_get fields from.field)) there)))

      other : (to.object ≡ from.object → ⊥) → field_at (now_with z) from.object from.field ≡ field_at memory from.object from.field
      other n = ap (option_and_then (λ (fields : Object). slice_get fields from.field)) (set_elsewhere memory to.object from.object (slice_set it to.field z) n)

  pub moves_across : (target z later : Field) (r : Option (Unit {0})) (b : Bool) (back : Object) (taken : Field) → slice_get it to.field ≡ Some target → (to.object ≡ from.object → to.field ≡ from.field → ⊥)
      → Leaves (moved_from target to.index (now_with z) from bytes) target r later → Swaps (slice_set it to.field z) to.field later b back taken
      → Leaves (move_bytes memory to from bytes) memory r (slice_set (now_with z) to.object back)
  moves_across target z later r false back taken e h l s =
      let k : slice_get (slice_set it to.field z) to.field ≡ Some z = set_there it to.field z target e in absurd (cc (k, s.0))
  moves_across target z later r true back taken e h l s =
      let g : moved_from target to.index (now_with z) from bytes ≡ moved_from target to.index memory from bytes = ap (option_and_then (λ (x : Field). moved_field target to.index x from.index bytes)) (field_apart z h) in
      let back_is : slice_set (now_with z) to.object back ≡ now_with later =
      ap (slice_set (now_with z) to.object) (s.1 ∙ set-set it to.field z later) ∙ set-set memory to.object (slice_set it to.field z) (slice_set it to.field later) in
      let P : Memory → Type 0 = λ m. Leaves (move_bytes memory to from bytes) memory r m in
      subst P (sym back_is) (leaves_with target later r e (leaves_same (moved_from target to.index (now_with z) from bytes) (moved_from target to.index memory from bytes) target later r g l))

pub one_field : (p q : Pointer) → same_field p q ≡ true → (q.object ≡ p.object) × (q.field ≡ p.field)
one_field p q e = (grind (arith, nat_tests, e), grind (arith, nat_tests, e))

pub two_fields : (p q : Pointer) → same_field p q ≡ false → p.object ≡ q.object → p.field ≡ q.field → ⊥
two_fields p q e a b = grind (arith, nat_tests, e, a, b)
