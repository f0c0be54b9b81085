-- A line that bytes begin with.
use Rattle.std.specs.Prelude.{◌≡◌, ◌++◌, ℕ, List}

-- The bytes begin otherwise than by this line.
abbrev pub LacksLine : (line bytes : List ℕ) → Type 0
LacksLine line bytes = (more : List ℕ) → bytes ≡ line ++ more → ⊥
