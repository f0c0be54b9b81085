-- Which values have which shapes, where `is` says whether one value has one shape.
use Rattle.std.specs.Prelude.{Bool, true, false, ◌&&◌, Option, None, Some, List, [], ◌∷◌}

abbrev pub fits_at : {S V : Type 0} → (S → V → Bool) → S → Option V → Bool
fits_at is s None = false
fits_at is s (Some v) = is s v

-- The topmost values have these shapes, the topmost first.
abbrev pub all_fit : {S V : Type 0} → (S → V → Bool) → List S → List V → Bool
all_fit is [] vs = true
all_fit is (s ∷ ss) [] = false
all_fit is (s ∷ ss) (v ∷ vs) = is s v && all_fit is ss vs
