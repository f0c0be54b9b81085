-- Objects of a call that are kept again.
use Rattle.std.specs.Prelude.{◌≡◌, ℕ, ◌<◌, ◌≤◌, List, ◌++◌, length, reverse, slice_get, Some}
use Rattle.c_meaning.specs.CMemory.{Object, Memory}
use Rattle.c_step_hosts.specs.Spares.{IsIo}

-- The last so many objects of memory are among the spares instead, the very last one first.
pub record MovesLast (count : ℕ) (old new : Memory) (spares now : List Object) : Type 0 where
  pub them : Memory
  pub cut : old ≡ new ++ them
  pub many : length them ≡ count
  pub kept : now ≡ spares ++ reverse them

-- The objects from one number on and below another are structs of io buffers.
abbrev pub AreIosBetween : (from to : ℕ) → Memory → Type 0
AreIosBetween from to memory = (k : ℕ) (o : Object) → from ≤ k → k < to → slice_get memory k ≡ Some o → IsIo o
