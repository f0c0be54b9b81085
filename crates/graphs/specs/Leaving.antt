-- The order in which a walk into depth leaves the numbers of a graph.
use Rattle.std.specs.Prelude.{◌≡◌, ◌⊎◌, ◌<◌, ◌≤◌, ℕ, Bool, true, List, Some, length, take, slice_get, nat_eq}
use Rattle.std.specs.List.{IsDistinct}
use Rattle.graphs.specs.Graphs.{Path, holds}

-- The number `a`, at place `i` of the order, was begun when `from` numbers had been left. A way leads from it to each
-- that was left since then, and none that was left before goes to it or to any of those.
pub record IsNest (step : ℕ → ℕ → Bool) (order : List ℕ) (from i a : ℕ) : Type 0 where
  pub upto : from ≤ i
  pub met : (j b : ℕ) → from ≤ j → j < i → slice_get order j ≡ Some b → Path step a b
  pub apart : (j m b c : ℕ) → j < from → from ≤ m → m ≤ i → slice_get order j ≡ Some b → slice_get order m ≡ Some c → step b c ≡ true → ⊥

-- Every number below n was left once. What a number goes to was left before it, or has a way to it.
pub record IsLeaving (n : ℕ) (step : ℕ → ℕ → Bool) (order : List ℕ) : Type 0 where
  pub whole : length order ≡ n
  pub within : (a : ℕ) → holds order a ≡ true → a < n
  pub once : IsDistinct nat_eq order
  pub back : (i a b : ℕ) → slice_get order i ≡ Some a → step a b ≡ true → (holds (take i order) b ≡ true) ⊎ Path step b a
  pub nest : (i a : ℕ) → slice_get order i ≡ Some a → (from : ℕ) × IsNest step order from i a
