-- Flags by number: of methods, or of structs.
use Rattle.std.specs.Prelude.{◌≡◌, ℕ, Bool, false, ◌||◌, List, slice_get, unwrap_or}

abbrev pub is_set : (flags : List Bool) → (number : ℕ) → Bool
is_set flags n = unwrap_or (slice_get flags n) false

-- Those are set that were, and those that this names.
abbrev pub Sets : (named : ℕ → Bool) → (old new : List Bool) → Type 0
Sets named old new = (n : ℕ) → is_set new n ≡ (is_set old n || named n)
