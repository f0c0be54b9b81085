-- Receivers stand apart: what one of them leads to is nothing of another's.
use Rattle.std.specs.Prelude.{◌≡◌, ℕ, ◌+◌, ◌<◌, ◌≤◌, Bool, true, false, ◌&&◌, ◌||◌, nat_lt, nat_le, List, [], ◌∷◌, ◌++◌, map, length, Option, Some, None, slice_get}
use Rattle.wf_text.specs.Surface.{Surface}
use Rattle.wf_text.specs.HostActions.{Receiver}
use Rattle.c_meaning.specs.CMemory.{u8, Memory}
use Rattle.c_meaning.specs.CCall.{Program}
use Rattle.c_meaning.specs.CRun.{text_object, receiver_objects}
use Rattle.c_meaning.specs.Reach.{IsReady}
use Rattle.c_meaning.specs.Typed.{FieldShape, of_cells, IsTyped, shape_of}

-- The numbers of a receiver's objects: its own and those inside it.
pub record Extent : Type 0 where
  pub first : ℕ
  pub count : ℕ

-- Those of a list of receivers, which are made one after the other after what memory holds.
abbrev pub extents : Program → Surface → List Receiver → Memory → List Extent
extents p surface [] memory = []
extents p surface (receiver ∷ receivers) memory =
    record { first = length memory; count = length (receiver_objects p surface receiver (length memory)) } ∷ extents p surface receivers (memory ++ receiver_objects p surface receiver (length memory))

abbrev pub extents_of : Program → Surface → List Receiver → List Extent
extents_of p surface receivers = extents p surface receivers (map text_object p.texts)

abbrev pub is_own : Option Extent → ℕ → Bool
is_own None n = false
is_own (Some e) n = nat_le e.first n && nat_lt n (e.first + e.count)

-- What an action on a receiver may reach: the strings, the receiver's objects, and what a call makes after all others.
abbrev pub reached : (texts size : ℕ) → Option Extent → ℕ → Bool
reached texts size extent n = nat_lt n texts || (is_own extent n || nat_le size n)

-- A string's object has bytes alone.
abbrev pub IsStringShape : List FieldShape → Type 0
IsStringShape (of_cells u8 count ∷ []) = Unit {0}
IsStringShape shape = ⊥

abbrev pub IsString : Option (List FieldShape) → Type 0
IsString None = ⊥
IsString (Some shape) = IsStringShape shape

pub record StandApart (texts : ℕ) (all : List Extent) (memory : Memory) : Type 0 where
  pub typed : IsTyped memory
  pub strings : (n : ℕ) → n < texts → IsString (slice_get (shape_of memory) n)
  pub ready : (k : ℕ) → IsReady (reached texts (length memory) (slice_get all k)) memory
  pub behind : (k n : ℕ) → is_own (slice_get all k) n ≡ true → texts ≤ n
  pub before : (k n : ℕ) → is_own (slice_get all k) n ≡ true → n < length memory
  pub apart : (j k n : ℕ) → (j ≡ k → ⊥) → is_own (slice_get all j) n ≡ true → is_own (slice_get all k) n ≡ false

-- Every object of every other receiver is as before.
pub record OthersStay (all : List Extent) (k : ℕ) (before now : Memory) : Type 0 where
  pub by : (j n : ℕ) → (j ≡ k → ⊥) → is_own (slice_get all j) n ≡ true → slice_get now n ≡ slice_get before n
