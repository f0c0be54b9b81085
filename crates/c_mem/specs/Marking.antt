-- Marks for the numbers of objects that are still to be made zero. Those up to `last` count; none after it is wanted.
use Rattle.std.specs.Prelude.{◌≡◌, ℕ, ◌<◌, ◌≤◌, Bool, true, false, List, length, max, slice_get, Some}
use Rattle.c_meaning.specs.CMemory.{contains}

-- From a number on the marks are those of the numbers that are wanted.
pub record Marked (marks : List Bool) (from last : ℕ) (wanted : List ℕ) : Type 0 where
  pub up_to : (k : ℕ) → from ≤ k → k ≤ last → slice_get marks k ≡ Some (contains wanted k)
  pub behind : (k : ℕ) → last < k → k < length marks → contains wanted k ≡ false

-- One number more is marked.
pub record MarksOne (old : List Bool) (number last : ℕ) (new : List Bool) (now : ℕ) : Type 0 where
  pub size : length new ≡ length old
  pub now_is : now ≡ max last number
  pub marked : slice_get new number ≡ Some true
  pub between : (k : ℕ) → last < k → k < number → slice_get new k ≡ Some false
  pub others : (k : ℕ) → k ≤ last → (k ≡ number → ⊥) → slice_get new k ≡ slice_get old k
