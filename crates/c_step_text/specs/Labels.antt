-- Where a label is found.
use Rattle.std.specs.Prelude.{◌≡◌, ℕ, ◌+◌, Option, Some, None}
use Rattle.c_meaning.specs.CStep.{Place, place_weight}
use Rattle.c_step_text.specs.Flat.{FlatText}
use Rattle.c_step_text.specs.Layout.{Names, Stands}

-- The number stands for the place. It is the end of the text less the text that is left from there.
pub record Lands (t : FlatText) (names : Names) (end number : ℕ) (place : Place) : Type 0 where
  pub stands : Stands t names end number place.code place.continuation
  pub tied : number + place_weight place ≡ end

-- A label has a number exactly where it has a place, and the number stands for the place.
abbrev pub Landing : FlatText → Names → (end : ℕ) → Option ℕ → Option Place → Type 0
Landing t names end None None = Unit {0}
Landing t names end (Some n) (Some p) = Lands t names end n p
Landing t names end number place = ⊥
