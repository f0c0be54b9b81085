-- Cells that are kept by their bytes.
use Rattle.std.proofs.Common.{◌≡◌, ◌⊎◌, inl, inr, ℕ, zero, suc, ◌+◌, ◌<◌, ◌≤◌, Bool, true, false, List, [], ◌∷◌, ◌++◌, length, map, replicate, take, drop, Option, Some, None, refl, sym, subst, ap, ◌∙◌, arith}
use Rattle.std.specs.Prelude.{◌-◌, ◌/◌, ◌%◌, if◌then◌else◌, ◌&&◌, ◌||◌, nat_eq, nat_lt, nat_le, slice_set, slice_range, option_and_then}
use Rattle.std.specs.List.{list_all, copy_within}
use Rattle.std.proofs.lemmas.List.{map-append, take-map, drop-map}
use Rattle.std.proofs.lemmas.Bool.Decides.{nat_tests}
use Rattle.c_meaning.specs.declared.cells.CellType.{CellType}
use Rattle.c_meaning.specs.declared.cells.CellType.TheVariants.{U8 as u8, U16 as u16, U32 as u32, U64 as u64, Flag as flag, Pointer as pointer}
use Rattle.c_meaning.specs.declared.cells.Cell.{Cell}
use Rattle.c_meaning.specs.declared.cells.Cell.TheVariants.{Num as num, Unset as unset}
use Rattle.c_meaning.specs.CMemory.{cells, same_type, is_set, whole_cells}
use Rattle.c_mem.specs.FieldParts.{is_byte, are_bytes, stored_in, declared_cell}
use Rattle.c_mem.specs.FieldViews.{byte_cell, byte_cells, AreKept}
use Rattle.c_mem.specs.Leaving.{Leaves}
use Rattle.c_mem.specs.Moving.{counted, paste_cells, PastesIn}
use Rattle.c_mem.proofs.Moved.{within_cells, none_pasted}

map_copies : {A B : Type 0} (f : A → B) (n : ℕ) (x : A) → map f (replicate n x) ≡ replicate n (f x)
map_copies f zero x = refl
map_copies f (suc n) x = ap (λ xs. f x ∷ xs) (map_copies f n x)

-- Cells as they are declared.
pub declared_bytes : (type : CellType) (count : ℕ) → is_byte type ≡ true → cells u8 (byte_cells (replicate count 0) (nat_lt 1 count)) ≡ cells type (replicate count (declared_cell type count))
declared_bytes u8 count e = ap (cells u8) (by_test (nat_lt 1 count))
  where
    by_test : (b : Bool) → byte_cells (replicate count 0) b ≡ replicate count (if b && true then num 0 else unset)
    by_test true = map_copies (byte_cell true) count 0
    by_test false = map_copies (byte_cell false) count 0
declared_bytes u16 count e = absurd (cc (e))
declared_bytes u32 count e = absurd (cc (e))
declared_bytes u64 count e = absurd (cc (e))
declared_bytes flag count e = absurd (cc (e))
declared_bytes pointer count e = absurd (cc (e))

pub declared_others : (type : CellType) (count : ℕ) → is_byte type ≡ false → cells type (replicate count unset) ≡ cells type (replicate count (declared_cell type count))
declared_others type count e = ap (λ (c : Cell). cells type (replicate count c)) (sym (ap (λ (b : Bool). if nat_lt 1 count && b then num 0 else unset) e ∙ off (nat_lt 1 count)))
  where
    off : (b : Bool) → (if b && false then num 0 else unset) ≡ unset
    off true = refl
    off false = refl

-- All of them, unset or 0.
pub clears : (them : List ℕ) (set : Bool) → byte_cells them false ≡ map (λ _. unset) (byte_cells them set)
clears [] set = refl
clears (x ∷ xs) set = ap (λ (cs : List Cell). unset ∷ cs) (clears xs set)

pub zeroes : (them : List ℕ) (set : Bool) → byte_cells (map (λ _. 0) them) true ≡ map (λ _. num 0) (byte_cells them set)
zeroes [] set = refl
zeroes (x ∷ xs) set = ap (λ (cs : List Cell). num 0 ∷ cs) (zeroes xs set)

-- All of them set.
pub all_set : (xs : List ℕ) → list_all is_set (byte_cells xs true) ≡ true
all_set [] = refl
all_set (x ∷ xs) = all_set xs

pub none_set : (xs : List ℕ) → list_all is_set (byte_cells xs false) ≡ nat_eq (length xs) 0
none_set [] = refl
none_set (x ∷ xs) = let e : nat_eq (suc (length xs)) 0 ≡ false = grind (arith, nat_tests) in sym e

pub set_bytes : (them : List ℕ) (set : Bool) → are_bytes (cells u8 (byte_cells them set)) ≡ true → byte_cells them set ≡ byte_cells them true
set_bytes them true e = refl
set_bytes [] false e = refl
set_bytes (x ∷ xs) false e = absurd (cc (e))

-- One of them is written.
length_cells : (xs : List ℕ) (set : Bool) → length (byte_cells xs set) ≡ length xs
length_cells [] set = refl
length_cells (x ∷ xs) set = ap suc (length_cells xs set)

set_at : (xs : List ℕ) (i b : ℕ) → slice_set (byte_cells xs true) i (num b) ≡ byte_cells (slice_set xs i b) true
set_at [] i b = refl
set_at (x ∷ xs) zero b = refl
set_at (x ∷ xs) (suc i) b = ap (λ (cs : List Cell). num x ∷ cs) (set_at xs i b)

set_only : (xs : List ℕ) (i b : ℕ) → length xs ≤ 1 → i < length xs → slice_set (byte_cells xs false) i (num b) ≡ byte_cells (slice_set xs i b) true
set_only [] i b h k = absurd (omega (arith, k))
set_only (x ∷ []) zero b h k = refl
set_only (x ∷ []) (suc i) b h k = absurd (omega (arith, k))
set_only (x ∷ y ∷ xs) i b h k = absurd (omega (arith, h))

pub writes_byte : (them : List ℕ) (set : Bool) (i b : ℕ) (cell : Cell) → AreKept them set → i < length them → num b ≡ cell
    → Leaves (stored_in (cells u8 (byte_cells them set)) i cell) (cells u8 (byte_cells them set)) (Some tt) (cells u8 (byte_cells (slice_set them i b) true))
writes_byte them set i b cell kept within e =
    let t : nat_lt i (length (byte_cells them set)) ≡ true = ap (nat_lt i) (length_cells them set) ∙ grind (arith, nat_tests, within) in
    ap (λ (d : Bool). if d then Some (cells u8 (slice_set (byte_cells them set) i cell)) else None) t
    ∙ ap (λ (cs : List Cell). Some (cells u8 cs)) (ap (slice_set (byte_cells them set) i) (sym e) ∙ by_set set kept)
  where
    by_set : (set : Bool) → AreKept them set → slice_set (byte_cells them set) i (num b) ≡ byte_cells (slice_set them i b) true
    by_set true k = set_at them i b
    by_set false k = set_only them i b k within

-- Some of them come to stand elsewhere.
pub paste_map : {A B : Type 0} (f : A → B) (xs : List A) (to : ℕ) (ys : List A) (from count : ℕ) → map f (paste_cells xs to ys from count) ≡ paste_cells (map f xs) to (map f ys) from count
paste_map f xs to ys from count =
    let n : List _ = take ((from + count) - from) (drop from ys) in
    map-append f (take to xs) (n ++ drop (to + count) xs)
    ∙ (ap (λ zs. zs ++ map f (n ++ drop (to + count) xs)) (sym (take-map f to xs))
    ∙ ap (λ zs. take to (map f xs) ++ zs) (map-append f n (drop (to + count) xs)
    ∙ (ap (λ zs. zs ++ map f (drop (to + count) xs)) (sym (take-map f ((from + count) - from) (drop from ys)) ∙ ap (take ((from + count) - from)) (sym (drop-map f from ys)))
    ∙ ap (λ zs. take ((from + count) - from) (drop from (map f ys)) ++ zs) (sym (drop-map f (to + count) xs)))))

pub pastes_within : (them : List ℕ) (set : Bool) (to from count : ℕ) → byte_cells (copy_within them from (from + count) to) set ≡ paste_cells (byte_cells them set) to (byte_cells them set) from count
pastes_within them set to from count = ap (λ (xs : List ℕ). byte_cells xs set) (within_cells them to from count) ∙ paste_map (byte_cell set) them to them from count

-- What is counted is there.
slice_of : (xs : List ℕ) (set : Bool) (from to : ℕ) → slice_range (byte_cells xs set) from to ≡ byte_cells (slice_range xs from to) set
slice_of xs set from to = ap (take (to - from)) (drop-map (byte_cell set) from xs) ∙ take-map (byte_cell set) (to - from) (drop from xs)

length_drop : {A : Type 0} (n : ℕ) (xs : List A) → n ≤ length xs → length (drop n xs) + n ≡ length xs
length_drop zero xs h = omega arith
length_drop (suc n) [] h = absurd (omega (arith, h))
length_drop (suc n) (x ∷ xs) h = omega (arith, length_drop n xs (omega (arith, h)))

length_take : {A : Type 0} (n : ℕ) (xs : List A) → n ≤ length xs → length (take n xs) ≡ n
length_take zero xs h = refl
length_take (suc n) [] h = absurd (omega (arith, h))
length_take (suc n) (x ∷ xs) h = ap suc (length_take n xs (omega (arith, h)))

slice_length : {A : Type 0} (xs : List A) (from count : ℕ) → from + count ≤ length xs → length (slice_range xs from (from + count)) ≡ count
slice_length xs from count h =
    let n : (from + count) - from ≡ count = omega arith in
    let d : length (drop from xs) + from ≡ length xs = length_drop from xs (omega (arith, h)) in
    ap (λ (k : ℕ). length (take k (drop from xs))) n ∙ length_take count (drop from xs) (omega (arith, h, d))

unset_range : (them : List ℕ) (from count : ℕ) → from + count ≤ length them → 0 < count → list_all is_set (slice_range (byte_cells them false) from (from + count)) ≡ false
unset_range them from count h k =
    ap (list_all is_set) (slice_of them false from (from + count))
    ∙ (none_set (slice_range them from (from + count)) ∙ (ap (λ (n : ℕ). nat_eq n 0) (slice_length them from count h) ∙ grind (arith, nat_tests, k)))

set_range : (them : List ℕ) (from to : ℕ) → list_all is_set (slice_range (byte_cells them true) from to) ≡ true
set_range them from to = ap (list_all is_set) (slice_of them true from to) ∙ all_set (slice_range them from to)

pub copies_bytes : (it : List ℕ) (b : Bool) (to : ℕ) (them : List ℕ) (set : Bool) (from count : ℕ) → AreKept it b → PastesIn (cells u8 (byte_cells it b)) to (cells u8 (byte_cells them set)) from count
    → byte_cells (paste_cells it to them from count) (b || nat_lt 0 count) ≡ paste_cells (byte_cells it b) to (byte_cells them set) from count
copies_bytes it b to them set from count kept p = by_count count refl
  where
    fits : to + count ≤ length it
    fits = subst (λ (n : ℕ). to + count ≤ n) (length_cells it b) p.fits

    within : from + count ≤ length them
    within = subst (λ (n : ℕ). from + count ≤ n) (length_cells them set) p.within

    none : count ≡ 0 → byte_cells (paste_cells it to them from count) (b || nat_lt 0 count) ≡ paste_cells (byte_cells it b) to (byte_cells them set) from count
    none e =
        let off : (b || nat_lt 0 count) ≡ b = or_off b (nat_lt 0 count) (grind (arith, nat_tests, e)) in
        ap (byte_cells (paste_cells it to them from count)) off
        ∙ (ap (λ (n : ℕ). byte_cells (paste_cells it to them from n) b) e ∙ (ap (λ (xs : List ℕ). byte_cells xs b) (none_pasted it to them from)
        ∙ sym (ap (paste_cells (byte_cells it b) to (byte_cells them set) from) e ∙ none_pasted (byte_cells it b) to (byte_cells them set) from)))
      where
        or_off : (b c : Bool) → c ≡ false → (b || c) ≡ b
        or_off true c e = refl
        or_off false c e = e

    source_set : (set : Bool) → from + count ≤ length them → 0 < count → list_all is_set (slice_range (byte_cells them set) from (from + count)) ≡ true → set ≡ true
    source_set true h k e = refl
    source_set false h k e = absurd (cc (e, unset_range them from count h k))

    target_set : (b : Bool) → AreKept it b → 0 < count → byte_cells (paste_cells it to them from count) true ≡ paste_cells (byte_cells it b) to (byte_cells them true) from count
    target_set true h k = paste_map (byte_cell true) it to them from count
    target_set false h k = paste_map (byte_cell true) it to them from count ∙ alone it to fits h k
      where
        alone : (it : List ℕ) (to : ℕ) → to + count ≤ length it → length it ≤ 1 → 0 < count → paste_cells (byte_cells it true) to (byte_cells them true) from count ≡ paste_cells (byte_cells it false) to (byte_cells them true) from count
        alone [] to f h k = absurd (omega (arith, f, k))
        alone (x ∷ y ∷ xs) to f h k = absurd (omega (arith, h))
        alone (x ∷ []) to f h k =
            let z : to ≡ 0 = omega (arith, f, k) in
            let o : count ≡ 1 = omega (arith, f, k) in
            ap (λ (n : ℕ). paste_cells (byte_cells (x ∷ []) true) n (byte_cells them true) from count) z
            ∙ (ap (paste_cells (byte_cells (x ∷ []) true) 0 (byte_cells them true) from) o
            ∙ sym (ap (λ (n : ℕ). paste_cells (byte_cells (x ∷ []) false) n (byte_cells them true) from count) z ∙ ap (paste_cells (byte_cells (x ∷ []) false) 0 (byte_cells them true) from) o))

    some : 0 < count → byte_cells (paste_cells it to them from count) (b || nat_lt 0 count) ≡ paste_cells (byte_cells it b) to (byte_cells them set) from count
    some k =
        let on : (b || nat_lt 0 count) ≡ true = or_on b (nat_lt 0 count) (grind (arith, nat_tests, k)) in
        let s : set ≡ true = by_case p.all_set in
        ap (byte_cells (paste_cells it to them from count)) on ∙ (target_set b kept k ∙ ap (λ (c : Bool). paste_cells (byte_cells it b) to (byte_cells them c) from count) (sym s))
      where
        or_on : (b c : Bool) → c ≡ true → (b || c) ≡ true
        or_on true c e = refl
        or_on false c e = e

        by_case : (count ≡ 0) ⊎ ((true ≡ true) × (list_all is_set (slice_range (byte_cells them set) from (from + count)) ≡ true)) → set ≡ true
        by_case (inl e) = absurd (omega (arith, e, k))
        by_case (inr e) = source_set set within k e.1

    by_count : (n : ℕ) → count ≡ n → byte_cells (paste_cells it to them from count) (b || nat_lt 0 count) ≡ paste_cells (byte_cells it b) to (byte_cells them set) from count
    by_count zero e = none e
    by_count (suc n) e = some (omega (arith, e))

-- No other cells are of their type.
pub no_bytes : (type : CellType) (them : List Cell) → is_byte type ≡ false → are_bytes (cells type them) ≡ true → ⊥
no_bytes type them e h = let k : false ≡ true = sym (ap (λ (b : Bool). b && list_all is_set them) e) ∙ h in absurd (cc (k))

differ : (type : CellType) → is_byte type ≡ false → (same_type type u8 ≡ false) × (same_type u8 type ≡ false)
differ u8 e = absurd (cc (e))
differ u16 e = (refl, refl)
differ u32 e = (refl, refl)
differ u64 e = (refl, refl)
differ flag e = (refl, refl)
differ pointer e = (refl, refl)

none_between : (type other : CellType) (xs : List Cell) (to : ℕ) (ys : List Cell) (from count : ℕ) → same_type type other ≡ false → PastesIn (cells type xs) to (cells other ys) from count → xs ≡ paste_cells xs to ys from count
none_between type other xs to ys from count d p = by_case p.all_set
  where
    by_case : (count ≡ 0) ⊎ ((same_type type other ≡ true) × (list_all is_set (slice_range ys from (from + count)) ≡ true)) → xs ≡ paste_cells xs to ys from count
    by_case (inl e) = sym (ap (paste_cells xs to ys from) e ∙ none_pasted xs to ys from)
    by_case (inr h) = let k : false ≡ true = sym d ∙ h.0 in absurd (cc (k))

pub none_from_bytes : (type : CellType) (xs : List Cell) (to : ℕ) (ys : List Cell) (from count : ℕ) → is_byte type ≡ false → PastesIn (cells type xs) to (cells u8 ys) from count → xs ≡ paste_cells xs to ys from count
none_from_bytes type xs to ys from count e p = none_between type u8 xs to ys from count (differ type e).0 p

pub none_to_bytes : (type : CellType) (xs : List Cell) (to : ℕ) (ys : List Cell) (from count : ℕ) → is_byte type ≡ false → PastesIn (cells u8 xs) to (cells type ys) from count → xs ≡ paste_cells xs to ys from count
none_to_bytes type xs to ys from count e p = none_between u8 type xs to ys from count (differ type e).1 p

-- How many of them may be moved.
pub counts_bytes : (it them : List ℕ) (b set : Bool) (to from bytes target source : ℕ) → length it ≡ target → length them ≡ source
    → (if nat_le (to + bytes) target && (nat_le (from + bytes) source && (nat_eq bytes 0 || set)) then Some bytes else None) ≡ counted u8 (byte_cells it b) to u8 (byte_cells them set) from bytes
counts_bytes it them b set to from bytes target source e f =
    ap (λ (n : ℕ). if nat_le (to + bytes) n && (nat_le (from + bytes) source && (nat_eq bytes 0 || set)) then Some bytes else None) (sym e ∙ sym (length_cells it b))
    ∙ (ap (λ (n : ℕ). if nat_le (to + bytes) T && (nat_le (from + bytes) n && (nat_eq bytes 0 || set)) then Some bytes else None) (sym f ∙ sym (length_cells them set))
    ∙ by_bytes bytes refl)
  where
    T : ℕ
    T = length (byte_cells it b)

    S : ℕ
    S = length (byte_cells them set)

    whole : whole_cells u8 bytes ≡ Some bytes
    whole =
        let m : bytes % 1 ≡ 0 = omega arith in
        let d : bytes / 1 ≡ bytes = omega arith in
        ap (λ (n : ℕ). if nat_eq n 0 then Some (bytes / 1) else None) m ∙ ap Some d

    at_zero : Option ℕ
    at_zero = Some 0

    none : (p q : Bool) → (if p && (q && (true || set)) then at_zero else None) ≡ (if p && q then at_zero else None)
    none true true = refl
    none true false = refl
    none false q = refl

    some : (p q : Bool) → nat_le (from + bytes) S ≡ p → nat_le (to + bytes) T ≡ q → 0 < bytes
        → (if q && (p && set) then Some bytes else None) ≡ (if p && (q && list_all is_set (slice_range (byte_cells them set) from (from + bytes))) then Some bytes else None)
    some false true x y k = refl
    some false false x y k = refl
    some true false x y k = refl
    some true true x y k = by_set set refl
      where
        by_set : (c : Bool) → set ≡ c → (if set then Some bytes else None) ≡ (if list_all is_set (slice_range (byte_cells them set) from (from + bytes)) then Some bytes else None)
        by_set true s = ap (λ (d : Bool). if d then Some bytes else None) (s ∙ sym (ap (λ (d : Bool). list_all is_set (slice_range (byte_cells them d) from (from + bytes))) s ∙ set_range them from (from + bytes)))
        by_set false s =
            let w : from + bytes ≤ length them = grind (arith, nat_tests, x, length_cells them set) in
            ap (λ (d : Bool). if d then Some bytes else None) (s ∙ sym (ap (λ (d : Bool). list_all is_set (slice_range (byte_cells them d) from (from + bytes))) s ∙ unset_range them from bytes w k))

    by_bytes : (n : ℕ) → bytes ≡ n → (if nat_le (to + bytes) T && (nat_le (from + bytes) S && (nat_eq bytes 0 || set)) then Some bytes else None) ≡ counted u8 (byte_cells it b) to u8 (byte_cells them set) from bytes
    by_bytes zero z =
        let t : to + 0 ≡ to = omega arith in
        let s : from + 0 ≡ from = omega arith in
        ap (λ (n : ℕ). if nat_le (to + n) T && (nat_le (from + n) S && (nat_eq n 0 || set)) then Some n else None) z
        ∙ (ap (λ (n : ℕ). if nat_le n T && (nat_le (from + 0) S && (true || set)) then at_zero else None) t
        ∙ (ap (λ (n : ℕ). if nat_le to T && (nat_le n S && (true || set)) then at_zero else None) s
        ∙ (none (nat_le to T) (nat_le from S) ∙ sym (ap (counted u8 (byte_cells it b) to u8 (byte_cells them set) from) z))))
    by_bytes (suc n) z =
        let k : 0 < bytes = omega (arith, z) in
        let off : nat_eq bytes 0 ≡ false = grind (arith, nat_tests, k) in
        ap (λ (d : Bool). if nat_le (to + bytes) T && (nat_le (from + bytes) S && (d || set)) then Some bytes else None) off
        ∙ (some (nat_le (from + bytes) S) (nat_le (to + bytes) T) refl refl k
        ∙ sym (ap (λ (d : Bool). if d then at_once else by_whole (whole_cells u8 bytes)) off ∙ ap by_whole whole))
      where
        at_once : Option ℕ
        at_once = if nat_le to T && nat_le from S then at_zero else None

        by_whole : Option ℕ → Option ℕ
        by_whole = option_and_then (λ count. if same_type u8 u8 && (nat_le (from + count) S && (nat_le (to + count) T && list_all is_set (slice_range (byte_cells them set) from (from + count)))) then Some count else None)
