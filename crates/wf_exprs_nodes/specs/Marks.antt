-- The names of a unit that code reads, as flags: one for each name, by its number.
use Rattle.std.specs.Prelude.{◌≡◌, ◌<◌, ◌≤◌, ℕ, suc, Bool, false, ◌&&◌, ◌||◌, List, [], ◌∷◌, length, map, bytes_eq, nat_eq, ⊤}
use Rattle.c_text.specs.CNodes.{bytes_at}

-- Whether a name is one whose flag is set, where the flags are those of the names from the number `n` on.
abbrev pub is_marked_from : (names : List (List ℕ)) → (n : ℕ) → (flags : List Bool) → (name : List ℕ) → Bool
is_marked_from names n [] name = false
is_marked_from names n (flag ∷ flags) name = (flag && bytes_eq name (bytes_at names n)) || is_marked_from names (suc n) flags name

abbrev pub is_marked : (names : List (List ℕ)) → (flags : List Bool) → (name : List ℕ) → Bool
is_marked names flags name = is_marked_from names 0 flags name

-- No walk is after the last one. Walks are counted from 1 on.
abbrev pub NoneAfter : (last : ℕ) → (walks : List ℕ) → Type 0
NoneAfter last [] = ⊤
NoneAfter last (walk ∷ walks) = (walk ≤ last) × NoneAfter last walks

pub record UpTo (last : ℕ) (walks : List ℕ) : Type 0 where
  pub some : 0 < last
  pub none_after : NoneAfter last walks

-- Which names were read in the last walk, where each was read last in one of these.
abbrev pub flags_of : (last : ℕ) → (walks : List ℕ) → List Bool
flags_of last walks = map (λ walk. nat_eq walk last) walks

-- The flags have the names that they had, and those that are read.
abbrev pub Marks : (reads : List ℕ → Bool) → (names : List (List ℕ)) → (old new : List Bool) → Type 0
Marks reads names old new = (name : List ℕ) → is_marked names new name ≡ (is_marked names old name || reads name)

-- The flags are those of just the names that are read.
pub record AreThose (reads : List ℕ → Bool) (names : List (List ℕ)) (flags : List Bool) : Type 0 where
  pub within : length flags ≤ length names
  pub are : (name : List ℕ) → is_marked names flags name ≡ reads name
