-- An action on one receiver leaves the others apart, and as they were.
use Rattle.std.proofs.Common.{◌≡◌, ℕ, zero, suc, ◌<◌, ◌≤◌, Bool, true, false, List, [], ◌∷◌, refl, sym, subst, arith, length}
use Rattle.std.specs.Prelude.{◌||◌, nat_lt, nat_le, slice_get}
use Rattle.std.proofs.lemmas.Bool.{ltb-true, leb-true}
use Rattle.std.proofs.lemmas.Bool.Decides.{nat_tests}
use Rattle.std.proofs.lemmas.Option.{slice_get_past}
use Rattle.c_meaning.specs.CMemory.{u8, u16, u32, u64, flag, pointer, Cell, num, null, at, unset, cells, part, Object, Memory}
use Rattle.c_meaning.specs.Reach.{CellsIn, ObjectIn, FoundIn, IsReady, Keeps}
use Rattle.c_meaning.specs.Typed.{CellsFit, ObjectFits, IsTyped, FieldShape, object_shape, shape_of}
use Rattle.c_meaning.specs.Apart.{Extent, is_own, reached, IsStringShape, IsString, StandApart, OthersStay}
use Rattle.c_meaning.proofs.Stores.{equal_or_not}

-- A string's object leads nowhere.
bytes_in : (inside : ℕ → Bool) (them : List Cell) → CellsFit u8 them → CellsIn inside them
bytes_in inside [] h = tt
bytes_in inside (num n ∷ xs) h = (tt, bytes_in inside xs h.1)
bytes_in inside (null ∷ xs) h = (tt, bytes_in inside xs h.1)
bytes_in inside (at p ∷ xs) h = absurd h.0
bytes_in inside (unset ∷ xs) h = (tt, bytes_in inside xs h.1)

string_object_in : (inside : ℕ → Bool) (object : Object) → ObjectFits object → IsStringShape (object_shape object) → ObjectIn inside object
string_object_in inside [] h s = absurd s
string_object_in inside (part o ∷ fields) h s = absurd s
string_object_in inside (cells u8 them ∷ []) h s = (bytes_in inside them h.0, tt)
string_object_in inside (cells u8 them ∷ field ∷ fields) h s = absurd s
string_object_in inside (cells u16 them ∷ fields) h s = absurd s
string_object_in inside (cells u32 them ∷ fields) h s = absurd s
string_object_in inside (cells u64 them ∷ fields) h s = absurd s
string_object_in inside (cells flag them ∷ fields) h s = absurd s
string_object_in inside (cells pointer them ∷ fields) h s = absurd s

pub string_in : (inside : ℕ → Bool) (memory : Memory) (n : ℕ) → IsTyped memory → IsString (slice_get (shape_of memory) n) → FoundIn inside (slice_get memory n)
string_in inside [] n h s = tt
string_in inside (x ∷ xs) zero h s = string_object_in inside x h.0 s
string_in inside (x ∷ xs) (suc n) h s = string_in inside xs n h.1 s

module _ (texts : ℕ) (all : List Extent) (memory now : Memory) (stand : StandApart texts all memory) (k : ℕ)
    (keeps : Keeps (reached texts (length memory) (slice_get all k)) memory now) (typed : IsTyped now) (shape : shape_of now ≡ shape_of memory) where
  abbrev size : ℕ
  size = length memory

  none_false : (a b c : Bool) → a ≡ false → b ≡ false → c ≡ false → (a || (b || c)) ≡ false
  none_false a b c p q r = rw (p, q, r) refl

  not_below : (n : ℕ) → texts ≤ n → nat_lt n texts ≡ false
  not_below n h = grind (arith, nat_tests)

  not_above : (n : ℕ) → n < size → nat_le size n ≡ false
  not_above n h = grind (arith, nat_tests)

  own_outside : (j n : ℕ) → (j ≡ k → ⊥) → is_own (slice_get all j) n ≡ true → reached texts size (slice_get all k) n ≡ false
  own_outside j n other own = none_false (nat_lt n texts) (is_own (slice_get all k) n) (nat_le size n) (not_below n (stand.behind j n own)) (stand.apart j k n other own) (not_above n (stand.before j n own))

  pub others : OthersStay all k memory now
  others = record { by = λ j n other own. keeps.outside n (own_outside j n other own) }

  strings_now : (n : ℕ) → n < texts → IsString (slice_get (shape_of now) n)
  strings_now n h = subst (λ (s : List (List FieldShape)). IsString (slice_get s n)) (sym shape) (stand.strings n h)

  made_now : (j n : ℕ) → size ≤ n → reached texts size (slice_get all j) n ≡ true
  made_now j n h = (stand.ready j).made n h

  closed_now : (j n : ℕ) → reached texts size (slice_get all j) n ≡ true → FoundIn (reached texts size (slice_get all j)) (slice_get now n)
  closed_now j n e = by_text (nat_lt n texts) refl
    where
      inside : ℕ → Bool
      inside = reached texts size (slice_get all j)

      past : size ≤ n → FoundIn (reached texts size (slice_get all j)) (slice_get now n)
      past h = let l : length now ≤ n = omega (arith, h, keeps.size) in rw (slice_get_past now n l) tt

      own : is_own (slice_get all j) n ≡ true → FoundIn (reached texts size (slice_get all j)) (slice_get now n)
      own o = equal_or_not j k (λ s. let f : reached texts size (slice_get all k) n ≡ true = subst (λ (x : ℕ). reached texts size (slice_get all x) n ≡ true) s e in
          subst (λ (x : ℕ). FoundIn (reached texts size (slice_get all x)) (slice_get now n)) (sym s) (keeps.closed.by n f))
          (λ other. rw (others.by j n other o) ((stand.ready j).closed.by n e))

      by_size : (b : Bool) → nat_le size n ≡ b → nat_lt n texts ≡ false → is_own (slice_get all j) n ≡ false → FoundIn (reached texts size (slice_get all j)) (slice_get now n)
      by_size true t p q = past (leb-true size n t)
      by_size false t p q = absurd (cc (e, none_false _ _ _ p q t))

      by_own : (b : Bool) → is_own (slice_get all j) n ≡ b → nat_lt n texts ≡ false → FoundIn (reached texts size (slice_get all j)) (slice_get now n)
      by_own true o p = own o
      by_own false o p = by_size (nat_le size n) refl p o

      by_text : (b : Bool) → nat_lt n texts ≡ b → FoundIn (reached texts size (slice_get all j)) (slice_get now n)
      by_text true t = string_in (reached texts size (slice_get all j)) now n typed (strings_now n (ltb-true n texts t))
      by_text false t = by_own (is_own (slice_get all j) n) refl t

  ready_now : (j : ℕ) → IsReady (reached texts (length now) (slice_get all j)) now
  ready_now j = subst (λ (s : ℕ). IsReady (reached texts s (slice_get all j)) now) (sym keeps.size)
      (record { closed = record { by = closed_now j }; made = λ n h. made_now j n (omega (arith, h, keeps.size)) })

  pub still_apart : StandApart texts all now
  still_apart = record {
    typed = typed;
    strings = strings_now;
    ready = ready_now;
    behind = stand.behind;
    before = λ j n own. let h : n < length memory = stand.before j n own in omega (arith, h, keeps.size);
    apart = stand.apart;
  }
