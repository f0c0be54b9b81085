-- A walk over a graph that goes into depth: what stands in the order, and the path that leads to where the walk is.
use Rattle.std.specs.Prelude.{◌≡◌, ◌⊎◌, ◌≤◌, ◌+◌, ◌*◌, ◌-◌, ◌<◌, ℕ, Bool, true, false, List, ◌++◌, Some, length, take, slice_get, slice_index_or, nat_eq}
use Rattle.std.specs.List.{IsDistinct}
use Rattle.graphs.specs.Graphs.{Path, holds, row_at, goes}
use Rattle.graphs.specs.declared.walk.Walk.{Walk}
use Rattle.graphs.specs.Leaving.{IsNest}

-- A flag of each of n numbers, true exactly for those that the list has.
pub record AreFlagsOf (n : ℕ) (flags : List Bool) (numbers : List ℕ) : Type 0 where
  pub len : length flags ≡ n
  pub same : (b : ℕ) (d : Bool) → b < n → slice_index_or flags b d ≡ holds numbers b

-- Of each number so many places of its row, from the front, have numbers that were begun.
pub record ArePassed (rows : List (List ℕ)) (begun passed : List ℕ) : Type 0 where
  pub len : length passed ≡ length rows
  pub front : (a b d : ℕ) → a < length rows → holds (take (slice_index_or passed a d) (row_at rows a)) b ≡ true → holds begun b ≡ true

-- The number `a`, at place `p` of the path, was begun when `from` numbers had been left. A way leads from it to each
-- that was left since then, and those that were left before go only to what was begun before it.
pub record IsOpen (rows : List (List ℕ)) (order path : List ℕ) (from p a : ℕ) : Type 0 where
  pub upto : from ≤ length order
  pub met : (j b : ℕ) → from ≤ j → slice_get order j ≡ Some b → Path (goes rows) a b
  pub before : (j b c : ℕ) → j < from → slice_get order j ≡ Some b → goes rows b c ≡ true → holds (take from order ++ take p path) c ≡ true

-- Numbers stand in the order when they were left, and on the path when they are open: from each of the path a way leads
-- to each that stands after it. All that a number goes to was begun before it was left. No number is twice in the order
-- and the path together.
pub record IsWalk (rows : List (List ℕ)) (order path : List ℕ) : Type 0 where
  pub told : (i a b : ℕ) → slice_get order i ≡ Some a → goes rows a b ≡ true → holds (order ++ path) b ≡ true
  pub back : (i a b : ℕ) → slice_get order i ≡ Some a → goes rows a b ≡ true → (holds (take i order) b ≡ true) ⊎ Path (goes rows) b a
  pub left : (i a : ℕ) → slice_get order i ≡ Some a → (from : ℕ) × IsNest (goes rows) order from i a
  pub opened : (p a : ℕ) → slice_get path p ≡ Some a → (from : ℕ) × IsOpen rows order path from p a
  pub leads : (i j a b : ℕ) → i < j → slice_get path i ≡ Some a → slice_get path j ≡ Some b → Path (goes rows) a b
  pub within : (b : ℕ) → holds (order ++ path) b ≡ true → b < length rows
  pub once : IsDistinct nat_eq (order ++ path)

pub record Walks (rows : List (List ℕ)) (walk : Walk) : Type 0 where
  pub going : IsWalk rows walk.order.items walk.path.items
  pub begun : AreFlagsOf (length rows) walk.begun.items (walk.order.items ++ walk.path.items)
  pub passed : ArePassed rows (walk.order.items ++ walk.path.items) walk.passed.items

-- A number that the walk may go on to: it isn't in the walk, and the last one of the path goes to it.
pub record IsNext (rows : List (List ℕ)) (walk : Walk) (a : ℕ) : Type 0 where
  pub below : a < length rows
  pub fresh : holds (walk.order.items ++ walk.path.items) a ≡ false
  pub led : (b : ℕ) → slice_get walk.path.items (length walk.path.items - 1) ≡ Some b → goes rows b a ≡ true

-- A number that the walk may come back from: the last one of the path, and the walk has begun with all that it goes to.
pub record IsDone (rows : List (List ℕ)) (walk : Walk) (a : ℕ) : Type 0 where
  pub last : slice_get walk.path.items (length walk.path.items - 1) ≡ Some a
  pub whole : (b : ℕ) → goes rows a b ≡ true → holds (walk.order.items ++ walk.path.items) b ≡ true

-- Whether a walk has begun with a number.
abbrev pub has_begun : Walk → ℕ → Bool
has_begun walk b = holds (walk.order.items ++ walk.path.items) b

-- Nothing that was begun is forgotten.
abbrev pub Remembers : (old new : Walk) → Type 0
Remembers old new = (b : ℕ) → has_begun old b ≡ true → has_begun new b ≡ true

-- How much of a walk is left at most: each number is begun and ended once.
abbrev pub steps_left : ℕ → Walk → ℕ
steps_left n walk = 2 * (n - (length walk.order.items + length walk.path.items)) + length walk.path.items

-- A step of a walk.
pub record Advances (rows : List (List ℕ)) (old new : Walk) : Type 0 where
  pub walks : Walks rows new
  pub remembers : Remembers old new
  pub falls : steps_left (length rows) new < steps_left (length rows) old
