-- The labels and the cases among statements with their numbers.
use Rattle.std.specs.Prelude.{ℕ, List, [], ◌∷◌, ◌++◌, Option, None}
use Rattle.c_text.specs.CTree.{Code, case_label, default_label, name_label}
use Rattle.c_meaning.specs.CValues.{literal_number}
use Rattle.c_meaning.specs.CStep.{Label, is_named, is_default}
use Rattle.c_step_text.specs.declared.text.Arm.{Arm}
use Rattle.c_step_text.specs.Layout.{number_here}
use Rattle.c_step_places.specs.Places.{PlaceTree}

-- The number of a statement, where it is this label; else another one.
abbrev pub marked : Label → ℕ → Code → Option ℕ → Option ℕ
marked label i (name_label name rest) other = number_here (is_named label name) i other
marked label i (default_label rest) other = number_here (is_default label) i other
marked label i code other = other

-- The number of the first of these statements that is this name, or `default`.
abbrev pub first_marked : Label → List PlaceTree → Option ℕ
first_marked label [] = None
first_marked label (p ∷ ps) = marked label p.number p.code (first_marked label ps)

-- The cases among statements.
abbrev pub case_at : ℕ → Code → List Arm
case_at i (case_label n rest) = record { number = literal_number n; target = i } ∷ []
case_at i code = []

abbrev pub cases_among : List PlaceTree → List Arm
cases_among [] = []
cases_among (p ∷ ps) = case_at p.number p.code ++ cases_among ps
