-- Labels of the numbers of a graph: two have one label exactly where they are one, or each has a way to the other.
use Rattle.std.specs.Prelude.{◌≡◌, ◌⊎◌, ◌<◌, ◌≤◌, ℕ, suc, Bool, true, List, Some, length, slice_get, slice_index_or, nat_eq}
use Rattle.std.specs.List.{IsDistinct}
use Rattle.graphs.specs.Graphs.{Path, holds, goes}
use Rattle.graphs.specs.Leaving.{IsNest}

-- The steps of a graph, from the lists of the numbers that go to each.
abbrev pub goes_back : List (List ℕ) → ℕ → ℕ → Bool
goes_back turned a b = goes turned b a

-- The label of a number; 0 where it has none.
abbrev pub label : List ℕ → ℕ → ℕ
label labels a = slice_index_or labels a 0

-- Two numbers that are one, or each of which has a way to the other.
abbrev pub AreTied : (ℕ → ℕ → Bool) → ℕ → ℕ → Type 0
AreTied step a b = (a ≡ b) ⊎ (Path step a b × Path step b a)

-- Labels of n numbers. No number goes to one whose label is higher, and numbers with one label are tied.
pub record AreLabels (n : ℕ) (step : ℕ → ℕ → Bool) (labels : List ℕ) : Type 0 where
  pub len : length labels ≡ n
  pub falls : (a b : ℕ) → step a b ≡ true → label labels b ≤ label labels a
  pub tied : (a b : ℕ) → a < n → b < n → label labels a ≡ label labels b → AreTied step a b

-- Labels while they are given, in rounds. The queue has the numbers that have one. A number that is labelled in the round
-- of place `k` of the order has the label `k + 1`, and is tied to the number at that place; the rounds came down to `i`.
pub record AreGiven (n : ℕ) (step : ℕ → ℕ → Bool) (order labels queue : List ℕ) (i : ℕ) : Type 0 where
  pub len : length labels ≡ n
  pub has : (b : ℕ) → holds queue b ≡ true → (k : ℕ) × (label labels b ≡ suc k)
  pub only : (b k : ℕ) → label labels b ≡ suc k → holds queue b ≡ true
  pub within : (b : ℕ) → holds queue b ≡ true → b < n
  pub once : IsDistinct nat_eq queue
  pub lowest : (b k : ℕ) → label labels b ≡ suc k → i ≤ k
  pub roots : (b k : ℕ) → label labels b ≡ suc k → (r : ℕ) × ((slice_get order k ≡ Some r) × AreTied step b r)

-- Between rounds the numbers at places from `i` on have labels, and no number goes to one whose label is higher.
pub record AreJoined (n : ℕ) (step : ℕ → ℕ → Bool) (order labels queue : List ℕ) (i : ℕ) : Type 0 where
  pub given : AreGiven n step order labels queue i
  pub above : (j b : ℕ) → i ≤ j → slice_get order j ≡ Some b → holds queue b ≡ true
  pub falls : (a b : ℕ) → step a b ≡ true → label labels b ≤ label labels a

-- In the round of place `i` all that go to the first `p` numbers of the queue have labels that are no lower. Those after
-- have the round's label, and all that have it were left from `from` on, when the round's root was begun.
pub record IsRound (n : ℕ) (step : ℕ → ℕ → Bool) (order labels queue : List ℕ) (p i : ℕ) : Type 0 where
  pub given : AreGiven n step order labels queue i
  pub above : (j b : ℕ) → i ≤ j → slice_get order j ≡ Some b → holds queue b ≡ true
  pub done : (j a b : ℕ) → j < p → slice_get queue j ≡ Some b → step a b ≡ true → label labels b ≤ label labels a
  pub now : (j b : ℕ) → p ≤ j → slice_get queue j ≡ Some b → label labels b ≡ suc i
  pub root : ℕ
  pub root_is : slice_get order i ≡ Some root
  pub from : ℕ
  pub nest : IsNest step order from i root
  pub gathered : (b : ℕ) → label labels b ≡ suc i → (m : ℕ) × ((from ≤ m) × ((m ≤ i) × (slice_get order m ≡ Some b)))
