-- What is left of an io buffer, by its struct and its bytes.
use Rattle.std.proofs.Common.{◌≡◌, ℕ, zero, suc, Bool, true, false, List, [], ◌∷◌, length, map, Option, Some, None, refl, sym, subst, ap, ◌∙◌, arith}
use Rattle.std.specs.Prelude.{◌&&◌, if◌then◌else◌, nat_eq, nat_le, slice_get, slice_set, option_map, option_and_then, MatchBool}
use Rattle.std.specs.List.{list_all}
use Rattle.wf_base.specs.BaseOps.{Buffer, capacity}
use Rattle.c_meaning.specs.declared.cells.Cell.{Cell}
use Rattle.c_meaning.specs.declared.cells.Cell.TheVariants.{Num as num, Null as null, At as at, Unset as unset}
use Rattle.c_meaning.specs.declared.cells.CellType.{CellType}
use Rattle.c_meaning.specs.declared.cells.CellType.TheVariants.{U8 as u8}
use Rattle.c_meaning.specs.CMemory.{cells, part, Object, Memory, cells_of, is_set}
use Rattle.c_meaning.specs.CRun.{bytes_object, bytes_pointer, number_in, numbers_in, keeps_pointer, bytes_in, field_cell, lawful_buffer, buffer_left}
use Rattle.c_meaning.specs.Typed.{of_cells, object_shape}
use Rattle.c_mem.specs.FieldParts.{is_byte, has_bytes}
use Rattle.c_step_hosts.specs.Taking.{indices_left, buffer_with, Gives, HasShape}
use Rattle.c_step_hosts.specs.declared.taking.Indices.{Indices}

numbers_of : (xs : List ℕ) → numbers_in (map (λ n. num n) xs) ≡ Some xs
numbers_of [] = refl
numbers_of (x ∷ xs) = ap (option_map (λ (ns : List ℕ). x ∷ ns)) (numbers_of xs)

unset_numbers : (cs : List Cell) → list_all is_set cs ≡ false → numbers_in cs ≡ None
unset_numbers [] e = absurd (cc (e))
unset_numbers (num n ∷ cs) e = ap (option_map (λ (ns : List ℕ). n ∷ ns)) (unset_numbers cs e)
unset_numbers (null ∷ cs) e = refl
unset_numbers (at p ∷ cs) e = refl
unset_numbers (unset ∷ cs) e = refl

-- The bytes of an object that is found.
bytes_of : Option Object → Option (List ℕ)
bytes_of found = option_and_then (λ (f : CellType × List Cell). numbers_in f.1) (option_and_then cells_of (option_and_then (λ (fields : Object). slice_get fields 0) found))

pub bytes_there : (memory : Memory) (object : ℕ) (them : List ℕ) → slice_get memory object ≡ Some (bytes_object them) → bytes_in memory object ≡ Some them
unfolding bytes_of
bytes_there memory object them e = ap bytes_of e ∙ numbers_of them

no_bytes : (o : Object) (n : ℕ) → object_shape o ≡ of_cells u8 n ∷ [] → has_bytes o ≡ false → bytes_of (Some o) ≡ None
unfolding bytes_of
no_bytes [] n e h = absurd (cc (e))
no_bytes (cells type them ∷ []) n e h =
    let t : type ≡ u8 = cc (e) in
    unset_numbers them (subst (λ (ty : CellType). (is_byte ty && list_all is_set them) ≡ false) t h)
no_bytes (part k ∷ []) n e h = absurd (cc (e))
no_bytes (f ∷ g ∷ fs) n e h = absurd (cc (e))

pub no_bytes_there : (memory : Memory) (object : ℕ) (o : Object) (n : ℕ) → slice_get memory object ≡ Some o → object_shape o ≡ of_cells u8 n ∷ [] → has_bytes o ≡ false → bytes_in memory object ≡ None
unfolding bytes_of
no_bytes_there memory object o n e s h = ap bytes_of e ∙ no_bytes o n s h

length_cells : (xs : List ℕ) → length (map (λ n. num n) xs) ≡ length xs
length_cells [] = refl
length_cells (x ∷ xs) = ap suc (length_cells xs)

pub same_size : (a b : List ℕ) → object_shape (bytes_object a) ≡ object_shape (bytes_object b) → length a ≡ length b
same_size a b e = let n : length (map (λ n. num n) a) ≡ length (map (λ n. num n) b) = cc (e) in sym (length_cells a) ∙ (n ∙ length_cells b)

numbers_length : (cs : List Cell) (ns : List ℕ) → numbers_in cs ≡ Some ns → length ns ≡ length cs
numbers_length [] ns e = let s : [] ≡ ns = cc (e) in ap (λ (xs : List ℕ). length xs) (sym s)
numbers_length (num n ∷ cs) ns e = by (numbers_in cs) (numbers_length cs) e
  where
    by : (o : Option (List ℕ)) → ((ms : List ℕ) → o ≡ Some ms → length ms ≡ length cs) → option_map (λ (ms : List ℕ). n ∷ ms) o ≡ Some ns → length ns ≡ suc (length cs)
    by None h e = absurd (cc (e))
    by (Some ms) h e = let s : n ∷ ms ≡ ns = cc (e) in ap (λ (xs : List ℕ). length xs) (sym s) ∙ ap suc (h ms refl)
numbers_length (null ∷ cs) ns e = absurd (cc (e))
numbers_length (at p ∷ cs) ns e = absurd (cc (e))
numbers_length (unset ∷ cs) ns e = absurd (cc (e))

length_kept : (o : Object) (was them : List ℕ) → object_shape o ≡ object_shape (bytes_object was) → bytes_of (Some o) ≡ Some them → length them ≡ length was
unfolding bytes_of
length_kept [] was them s e = absurd (cc (s))
length_kept (cells type cs ∷ []) was them s e =
    let n : length cs ≡ length (map (λ n. num n) was) = cc (s) in
    numbers_length cs them e ∙ (n ∙ length_cells was)
length_kept (part k ∷ []) was them s e = absurd (cc (s))
length_kept (f ∷ g ∷ fs) was them s e = absurd (cc (s))

pub bytes_sized : (memory : Memory) (object : ℕ) (was them : List ℕ) → HasShape memory object was → bytes_in memory object ≡ Some them → length them ≡ length was
unfolding bytes_of
bytes_sized memory object was them s e = length_kept s.0 was them s.2 (sym (ap bytes_of s.1) ∙ e)

same_start : (a b : List ℕ) (object : ℕ) → length a ≡ length b → bytes_pointer a object ≡ bytes_pointer b object
same_start [] [] object e = refl
same_start [] (y ∷ ys) object e = absurd (omega (arith, e))
same_start (x ∷ xs) [] object e = absurd (omega (arith, e))
same_start (x ∷ xs) (y ∷ ys) object e = refl

either : (b : Bool) → if◌then◌else◌ {A = Option Buffer} b None None ≡ None
either true = refl
either false = refl

module _ (memory : Memory) (buffer object : ℕ) (was : Buffer) where
  pub nothing_left : bytes_in memory object ≡ None → buffer_left memory buffer object was ≡ None
  nothing_left e = rw e (either _)

  pub left_is : (them : List ℕ) → bytes_in memory object ≡ Some them → length them ≡ capacity was
      → buffer_left memory buffer object was ≡ option_and_then (λ i. lawful_buffer (capacity was) (buffer_with them i)) (indices_left memory buffer object them)
  left_is them e n = go (keeps_pointer (bytes_pointer was.cells object) (field_cell memory buffer 0)) (number_in (field_cell memory buffer 1))
      (number_in (field_cell memory buffer 2)) (number_in (field_cell memory buffer 3)) (number_in (field_cell memory buffer 4)) (number_in (field_cell memory buffer 5)) refl refl refl refl refl refl
    where
      start : bytes_pointer them object ≡ bytes_pointer was.cells object
      start = same_start them was.cells object n

      go : (k : Bool) (l w r p c : Option ℕ) → keeps_pointer (bytes_pointer was.cells object) (field_cell memory buffer 0) ≡ k → number_in (field_cell memory buffer 1) ≡ l
          → number_in (field_cell memory buffer 2) ≡ w → number_in (field_cell memory buffer 3) ≡ r → number_in (field_cell memory buffer 4) ≡ p → number_in (field_cell memory buffer 5) ≡ c
          → buffer_left memory buffer object was ≡ option_and_then (λ i. lawful_buffer (capacity was) (buffer_with them i)) (indices_left memory buffer object them)
      go false l w r p c a b d f g h = rw (start, a) refl
      go true None w r p c a b d f g h = rw (start, a, b) refl
      go true (Some m) w r p c a b d f g h = sized (nat_eq m (capacity was)) w r p c refl d f g h
        where
          sized : (q : Bool) (w r p c : Option ℕ) → nat_eq m (capacity was) ≡ q
              → number_in (field_cell memory buffer 2) ≡ w → number_in (field_cell memory buffer 3) ≡ r → number_in (field_cell memory buffer 4) ≡ p → number_in (field_cell memory buffer 5) ≡ c
              → buffer_left memory buffer object was ≡ option_and_then (λ i. lawful_buffer (capacity was) (buffer_with them i)) (indices_left memory buffer object them)
          sized false w r p c q d f g h = rw (start, a, b, n, q) refl
          sized true None r p c q d f g h = rw (start, a, b, n, q, e, d) refl
          sized true (Some w) None p c q d f g h = rw (start, a, b, n, q, e, d, f) refl
          sized true (Some w) (Some r) None c q d f g h = rw (start, a, b, n, q, e, d, f, g) refl
          sized true (Some w) (Some r) (Some p) None q d f g h = rw (start, a, b, n, q, e, d, f, g, h) refl
          sized true (Some w) (Some r) (Some p) (Some c) q d f g h = rw (start, a, b, n, q, e, d, f, g, h) refl

-- The struct is as it was before the bytes were traded.
elsewhere : {A : Type 0} (xs : List A) (i j : ℕ) (x : A) → (i ≡ j → ⊥) → slice_get (slice_set xs i x) j ≡ slice_get xs j
elsewhere [] i j x h = refl
elsewhere (z ∷ zs) zero zero x h = absurd (h refl)
elsewhere (z ∷ zs) zero (suc j) x h = refl
elsewhere (z ∷ zs) (suc i) zero x h = refl
elsewhere (z ∷ zs) (suc i) (suc j) x h = elsewhere zs i j x (λ e. h (ap suc e))

cell_of_found : Option Object → ℕ → Option (CellType × Cell)
cell_of_found found field = option_and_then (λ (f : CellType × List Cell). option_map (tagged f.0) (slice_get f.1 0)) (option_and_then cells_of (option_and_then (λ (fields : Object). slice_get fields field) found))
  where
    tagged : CellType → Cell → CellType × Cell
    tagged t c = (t, c)

same_cell : (memory : Memory) (buffer object field : ℕ) (x : Object) → (object ≡ buffer → ⊥) → field_cell (slice_set memory object x) buffer field ≡ field_cell memory buffer field
unfolding cell_of_found
same_cell memory buffer object field x h = ap (λ (o : Option Object). cell_of_found o field) (elsewhere memory object buffer x h)

pub struct_stays : (memory : Memory) (buffer object : ℕ) (x : Object) (them : List ℕ) → (object ≡ buffer → ⊥) → indices_left (slice_set memory object x) buffer object them ≡ indices_left memory buffer object them
struct_stays memory buffer object x them h =
    rw (same_cell memory buffer object 0 x h, same_cell memory buffer object 1 x h, same_cell memory buffer object 2 x h, same_cell memory buffer object 3 x h, same_cell memory buffer object 4 x h, same_cell memory buffer object 5 x h) refl

pub same_bytes : (memory : Memory) (traded object : ℕ) (x : Object) → (traded ≡ object → ⊥) → bytes_in (slice_set memory traded x) object ≡ bytes_in memory object
unfolding bytes_of
same_bytes memory traded object x h = ap bytes_of (elsewhere memory traded object x h)

pub same_buffer : (memory : Memory) (traded buffer object : ℕ) (x : Object) (was : Buffer) → (traded ≡ buffer → ⊥) → (traded ≡ object → ⊥) → buffer_left (slice_set memory traded x) buffer object was ≡ buffer_left memory buffer object was
same_buffer memory traded buffer object x was h k =
    rw (same_cell memory buffer traded 0 x h, same_cell memory buffer traded 1 x h, same_cell memory buffer traded 2 x h, same_cell memory buffer traded 3 x h, same_cell memory buffer traded 4 x h, same_cell memory buffer traded 5 x h, same_bytes memory traded object x k) refl

pub empty_has_bytes : (o : Object) → object_shape o ≡ of_cells u8 0 ∷ [] → has_bytes o ≡ true
empty_has_bytes [] e = absurd (cc (e))
empty_has_bytes (cells type [] ∷ []) e = let t : type ≡ u8 = cc (e) in ap (λ (u : CellType). has_bytes (cells u [] ∷ [])) t
empty_has_bytes (cells type (c ∷ cs) ∷ []) e = absurd (too_many (cc (e)))
  where
    too_many : suc (length cs) ≡ 0 → ⊥
    too_many h = absurd (omega (arith, h))
empty_has_bytes (part k ∷ []) e = absurd (cc (e))
empty_has_bytes (f ∷ g ∷ fs) e = absurd (cc (e))

-- What is taken back, once the bytes are in the hand.
module _ (before after : Memory) (buffer object : ℕ) (was : Buffer) (o : Object) (hand given : List ℕ) (apart : object ≡ buffer → ⊥) (there : slice_get before object ≡ Some o)
    (shaped : object_shape o ≡ object_shape (bytes_object was.cells)) (taken : slice_get before object ≡ Some (bytes_object hand)) (now : after ≡ slice_set before object (bytes_object given)) where
  sized : length hand ≡ capacity was
  sized = let e : o ≡ bytes_object hand = cc (there, taken) in same_size hand was.cells (sym (ap object_shape e) ∙ shaped)

  read_is : indices_left after buffer object hand ≡ indices_left before buffer object hand
  read_is = ap (λ (m : Memory). indices_left m buffer object hand) now ∙ struct_stays before buffer object (bytes_object given) hand apart

  pub taken_none : None ≡ indices_left after buffer object hand → buffer_left before buffer object was ≡ None
  taken_none e = left_is before buffer object was hand (bytes_there before object hand taken) sized
      ∙ ap (option_and_then (λ (i : Indices). lawful_buffer (capacity was) (buffer_with hand i))) (sym read_is ∙ sym e)

  pub taken_gives : (left : Indices) (result : Bool) (has : Buffer → Type 0) → Some left ≡ indices_left after buffer object hand
      → result ≡ (nat_le left.ri left.wi && nat_le left.wi (length hand)) → MatchBool result (has (buffer_with hand left)) (Unit {0}) → Gives (buffer_left before buffer object was) result has
  taken_gives left result has e lawful m = by_result result lawful m
    where
      is : buffer_left before buffer object was ≡ (if nat_le left.ri left.wi && nat_le left.wi (length hand) then Some (buffer_with hand left) else None)
      is = left_is before buffer object was hand (bytes_there before object hand taken) sized
          ∙ (ap (option_and_then (λ (i : Indices). lawful_buffer (capacity was) (buffer_with hand i))) (sym read_is ∙ sym e)
          ∙ ap (λ (n : ℕ). lawful_buffer n (buffer_with hand left)) (sym sized))

      by_result : (b : Bool) → b ≡ (nat_le left.ri left.wi && nat_le left.wi (length hand)) → MatchBool b (has (buffer_with hand left)) (Unit {0}) → Gives (buffer_left before buffer object was) b has
      by_result true l k = (buffer_with hand left, is ∙ ap (λ (t : Bool). if t then Some (buffer_with hand left) else None) (sym l), k)
      by_result false l k = is ∙ ap (λ (t : Bool). if t then Some (buffer_with hand left) else None) (sym l)
