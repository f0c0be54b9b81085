-- What can be reached. A set of objects, by number, is closed where the pointers in its objects, and the objects inside
-- them, lead to its objects.
use Rattle.std.specs.Prelude.{◌≡◌, ℕ, ◌≤◌, Bool, true, false, List, [], ◌∷◌, length, Option, Some, None, slice_get}
use Rattle.c_meaning.specs.CValues.{CValue, numeric, address, null_pointer}
use Rattle.c_meaning.specs.CMemory.{Cell, num, null, at, unset, Field, cells, part, Object, Memory}

abbrev pub CellIn : (ℕ → Bool) → Cell → Type 0
CellIn inside (num n) = Unit {0}
CellIn inside null = Unit {0}
CellIn inside (at p) = inside p.object ≡ true
CellIn inside unset = Unit {0}

abbrev pub CellsIn : (ℕ → Bool) → List Cell → Type 0
CellsIn inside [] = Unit {0}
CellsIn inside (cell ∷ others) = CellIn inside cell × CellsIn inside others

abbrev pub FieldIn : (ℕ → Bool) → Field → Type 0
FieldIn inside (cells type them) = CellsIn inside them
FieldIn inside (part object) = inside object ≡ true

abbrev pub ObjectIn : (ℕ → Bool) → Object → Type 0
ObjectIn inside [] = Unit {0}
ObjectIn inside (field ∷ fields) = FieldIn inside field × ObjectIn inside fields

abbrev pub FoundIn : (ℕ → Bool) → Option Object → Type 0
FoundIn inside None = Unit {0}
FoundIn inside (Some object) = ObjectIn inside object

pub record IsClosed (inside : ℕ → Bool) (memory : Memory) : Type 0 where
  pub by : (k : ℕ) → inside k ≡ true → FoundIn inside (slice_get memory k)

-- Values that lead to its objects.
abbrev pub ValueIn : (ℕ → Bool) → CValue → Type 0
ValueIn inside (numeric n) = Unit {0}
ValueIn inside (address p) = inside p.object ≡ true
ValueIn inside null_pointer = Unit {0}

abbrev pub ValuesIn : (ℕ → Bool) → List CValue → Type 0
ValuesIn inside [] = Unit {0}
ValuesIn inside (v ∷ vs) = ValueIn inside v × ValuesIn inside vs

-- The set has the objects that a call makes, and is closed.
pub record IsReady (inside : ℕ → Bool) (memory : Memory) : Type 0 where
  pub closed : IsClosed inside memory
  pub made : (k : ℕ) → length memory ≤ k → inside k ≡ true

-- Every object outside the set is as before, and the set is still closed.
pub record Keeps (inside : ℕ → Bool) (before now : Memory) : Type 0 where
  pub outside : (k : ℕ) → inside k ≡ false → slice_get now k ≡ slice_get before k
  pub size : length now ≡ length before
  pub closed : IsClosed inside now

-- The pointer to a receiver leads to its objects, where there is one.
abbrev pub OptionIn : (ℕ → Bool) → Option CValue → Type 0
OptionIn inside None = Unit {0}
OptionIn inside (Some v) = ValueIn inside v
