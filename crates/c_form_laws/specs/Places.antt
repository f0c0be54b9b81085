-- Lists by their places: a place is a number, from 0.
use Rattle.std.specs.Prelude.{◌≡◌, ℕ, List, Some, slice_get}

-- The list has this at the place.
abbrev pub At : {A : Type 0} → List A → ℕ → A → Type 0
At xs i x = slice_get xs i ≡ Some x

-- The list has this somewhere.
abbrev pub Has : {A : Type 0} → List A → A → Type 0
Has xs x = (i : ℕ) × At xs i x

-- So it is for every place of the list and what stands there.
abbrev pub Each : {A : Type 0} → (ℕ → A → Type 0) → List A → Type 0
Each {A} Holds xs = (i : ℕ) (x : A) → At xs i x → Holds i x

-- No two places have the same.
abbrev pub AllDiffer : {A : Type 0} → List A → Type 0
AllDiffer {A} xs = (i j : ℕ) (x : A) → At xs i x → At xs j x → i ≡ j
