-- The texts of ok and of the base statuses, as a caller sees them, in the order of their numbers.
use Rattle.std.specs.Prelude.{ℕ, List, [], ◌∷◌, codes}

abbrev pub base_statuses : List (List ℕ)
base_statuses =
    []
    ∷ codes "$base: short read"
    ∷ codes "$base: short write"
    ∷ codes "@base: end of data"
    ∷ codes "#base: bad receiver"
    ∷ codes "#base: bad argument"
    ∷ codes "#base: initialize not called"
    ∷ codes "#base: interleaved coroutine calls"
    ∷ codes "#base: disabled by previous error"
    ∷ codes "#base: cannot return a suspension"
    ∷ []
