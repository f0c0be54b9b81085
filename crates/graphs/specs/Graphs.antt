-- Graphs over numbers: each number has the list of the numbers that it goes to.
use Rattle.std.specs.Prelude.{◌≡◌, ℕ, ◌<◌, Bool, true, List, [], Option, Some, None, length, slice_get, nat_eq}
use Rattle.std.specs.List.{list_any}

-- A way of one or more steps.
pub data Path (step : ℕ → ℕ → Bool) : ℕ → ℕ → Type 0 where
  last : (a b : ℕ) → step a b ≡ true → Path step a b
  more : (a b c : ℕ) → step a b ≡ true → Path step b c → Path step a c

-- Whether a list has a number.
abbrev pub holds : List ℕ → ℕ → Bool
holds numbers b = list_any (nat_eq b) numbers

abbrev pub row_in : Option (List ℕ) → List ℕ
row_in None = []
row_in (Some row) = row

-- Where a number goes; a number that the graph doesn't have goes nowhere.
abbrev pub row_at : List (List ℕ) → ℕ → List ℕ
row_at rows a = row_in (slice_get rows a)

abbrev pub goes : List (List ℕ) → ℕ → ℕ → Bool
goes rows a b = holds (row_at rows a) b

-- A graph over the numbers below n.
abbrev pub AreWithin : List (List ℕ) → ℕ → Type 0
AreWithin rows n = (a b : ℕ) → goes rows a b ≡ true → b < n

-- Flags of the first k numbers: whether a way leads from the number back to itself.
pub record AreCycles (rows : List (List ℕ)) (flags : List Bool) (k : ℕ) : Type 0 where
  pub len : length flags ≡ k
  pub sound : (a : ℕ) → slice_get flags a ≡ Some true → Path (goes rows) a a
  pub complete : (a : ℕ) → a < k → Path (goes rows) a a → slice_get flags a ≡ Some true
