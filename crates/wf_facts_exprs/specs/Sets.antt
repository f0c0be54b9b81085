-- Sets of facts of a list: a fact is told by its place in the list, and a set by eight words of 64 bits.
use Rattle.std.specs.Prelude.{◌≡◌, ℕ, zero, suc, ◌/◌, ◌%◌, ◌<◌, Bool, true, false, List, [], ◌∷◌, ◌++◌, if◌then◌else◌, nat_eq, slice_index}
use Rattle.std.specs.Int.{bit_at}

-- Bit `i mod 64` of word `i / 64` is that of place `i`.
unfoldable pub member : List ℕ → ℕ → Bool
member words i = nat_eq (bit_at (slice_index words (i / 64)) (i % 64)) 1

-- Which of the first n places are in the set, in order.
abbrev pub members : List ℕ → (n : ℕ) → List Bool
members words zero = []
members words (suc n) = members words n ++ member words n ∷ []

-- Whether a place is marked; beyond the marks none is.
abbrev pub marked : List Bool → ℕ → Bool
marked [] i = false
marked (m ∷ ms) zero = m
marked (m ∷ ms) (suc i) = marked ms i

-- The set has just the marked places.
pub record IsSetOf (words : List ℕ) (marks : List Bool) : Type 0 where
  pub at : (i : ℕ) → i < 512 → member words i ≡ marked marks i

-- What is marked in the first list is marked in the second.
abbrev pub Within : (marks whole : List Bool) → Type 0
Within [] [] = Unit {0}
Within (m ∷ ms) (w ∷ ws) = (m ≡ true → w ≡ true) × Within ms ws
Within ms ws = ⊥

-- The set has the marked places, and maybe others of the list.
pub record IsAround (words : List ℕ) (marks : List Bool) : Type 0 where
  pub whole : List Bool
  pub is : IsSetOf words whole
  pub holds : Within marks whole

-- What stays of a list whose marked items go.
abbrev pub unmarked : {X : Type 0} → (marks : List Bool) → List X → List X
unmarked [] xs = xs
unmarked (m ∷ ms) [] = []
unmarked (true ∷ ms) (x ∷ xs) = unmarked ms xs
unmarked (false ∷ ms) (x ∷ xs) = x ∷ unmarked ms xs

-- How many of the first places aren't in the set.
abbrev pub staying : (dropped : List ℕ) → ℕ → ℕ
staying dropped zero = 0
staying dropped (suc i) = if member dropped i then staying dropped i else suc (staying dropped i)

-- Where each of the first n places is once those of the set are gone.
abbrev pub ArePlaces : (dropped places : List ℕ) → ℕ → Type 0
ArePlaces dropped places n = (i : ℕ) → i < n → slice_index places i ≡ staying dropped i
