-- What one take from an input answers, leaves and counts.
use Rattle.std.specs.Prelude.{◌≡◌, ℕ, ◌+◌, ◌<◌, ◌≤◌, List, length, take, Option, IfSome, Result, Ok, Err}
use Rattle.wf_outside.specs.declared.inputs.TakeFault.{TakeFault}
use Rattle.wf_outside.specs.declared.inputs.TakeFault.TheVariants.{Failed, TooLong, Memory}

-- The part is the first bytes of the whole, however many.
abbrev pub IsFront : List ℕ → List ℕ → Type 0
IsFront part whole = (count : ℕ) × (part ≡ take count whole)

-- An input of these bytes, taken with a bound, gives this answer and leaves these bytes.
abbrev pub Takes : List ℕ → ℕ → Result (Unit {0}) TakeFault → List ℕ → Type 0
Takes bytes most (Ok _) into = (into ≡ bytes) × (length bytes ≤ most)
Takes bytes most (Err Failed) into = IsFront into bytes
Takes bytes most (Err TooLong) into = (into ≡ take (most + 1) bytes) × (most < length bytes)
Takes bytes most (Err Memory) into = IsFront into bytes

-- How much a take with a bound leaves, whether or not the input's bytes are told.
abbrev pub TakesLength : ℕ → Result (Unit {0}) TakeFault → List ℕ → Type 0
TakesLength most (Ok _) into = length into ≤ most
TakesLength most (Err Failed) into = length into ≤ most + 1
TakesLength most (Err TooLong) into = length into ≡ most + 1
TakesLength most (Err Memory) into = length into ≤ most + 1

-- The count of faults rises at `Failed` and stays at every other answer.
abbrev pub CountsTake : ℕ → ℕ → Result (Unit {0}) TakeFault → Type 0
CountsTake before now (Ok _) = now ≡ before
CountsTake before now (Err Failed) = before < now
CountsTake before now (Err TooLong) = now ≡ before
CountsTake before now (Err Memory) = now ≡ before

-- The last failed name, where it is told, is the taken one at `Failed` and stays at every other answer.
abbrev pub NamesFailed : Option (List ℕ) → Option (List ℕ) → Result (Unit {0}) TakeFault → List ℕ → Type 0
NamesFailed before now (Ok _) name = now ≡ before
NamesFailed before now (Err Failed) name = IfSome now (λ failed. failed ≡ name)
NamesFailed before now (Err TooLong) name = now ≡ before
NamesFailed before now (Err Memory) name = now ≡ before
