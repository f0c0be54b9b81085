-- Orders of the numbers of a graph: each number stands after those that it goes to.
use Rattle.std.specs.Prelude.{◌≡◌, ◌⊎◌, ◌<◌, ℕ, true, List, Some, length, take, slice_get, nat_eq}
use Rattle.std.specs.List.{IsDistinct}
use Rattle.graphs.specs.Graphs.{Path, holds, goes}

-- Every number of the graph stands in the order once, and all that it goes to stand before it.
pub record IsOrder (rows : List (List ℕ)) (order : List ℕ) : Type 0 where
  pub whole : length order ≡ length rows
  pub within : (a : ℕ) → holds order a ≡ true → a < length rows
  pub once : IsDistinct nat_eq order
  pub behind : (i a b : ℕ) → slice_get order i ≡ Some a → goes rows a b ≡ true → holds (take i order) b ≡ true

-- Every number of the graph stands in the order once, and all that it goes to stand before it, apart from those that
-- have a way back to it.
pub record IsOrderOffCycles (rows : List (List ℕ)) (order : List ℕ) : Type 0 where
  pub whole : length order ≡ length rows
  pub every : (a : ℕ) → a < length rows → holds order a ≡ true
  pub within : (a : ℕ) → holds order a ≡ true → a < length rows
  pub once : IsDistinct nat_eq order
  pub behind : (i a b : ℕ) → slice_get order i ≡ Some a → goes rows a b ≡ true → (holds (take i order) b ≡ true) ⊎ Path (goes rows) b a

-- A way leads from some number back to it.
abbrev pub HasCycle : List (List ℕ) → Type 0
HasCycle rows = (a : ℕ) × Path (goes rows) a a
