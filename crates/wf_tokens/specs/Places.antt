-- Places: a line ends with its line feed, and columns count bytes.
use Rattle.std.specs.Prelude.{ℕ, ◌+◌, List, [], ◌∷◌, nat_eq, if◌then◌else◌}
use Rattle.wf_text.specs.declared.place.Place.{Place}

-- The place after one byte.
abbrev pub behind_byte : Place → ℕ → Place
behind_byte at byte = if nat_eq byte 10 then record { file = at.file; line = at.line + 1; col = 1 } else record { file = at.file; line = at.line; col = at.col + 1 }

-- The place after bytes of which the first stands at the given place.
abbrev pub behind_bytes : Place → List ℕ → Place
behind_bytes at [] = at
behind_bytes at (byte ∷ rest) = behind_bytes (behind_byte at byte) rest

-- The place so many bytes on, in the same line.
abbrev pub along : Place → ℕ → Place
along at len = record { file = at.file; line = at.line; col = at.col + len }

abbrev pub first_place : ℕ → Place
first_place file = record { file = file; line = 1; col = 1 }
