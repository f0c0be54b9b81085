-- How many files a package may have, and how many bytes these may have together.
use Rattle.std.specs.Prelude.{ℕ, ◌+◌, ◌-◌, List, [], ◌∷◌, length, Option, None, Some, nat_le, if◌then◌else◌}
use Rattle.std.specs.Option.{option_or}
use Rattle.wf_text.specs.declared.rules.Refusal.{Refusal}
use Rattle.wf_text.specs.declared.rules.Rule.TheVariants.{L1, L2}
use Rattle.wf_tokens.specs.Places.{first_place}

abbrev pub most_files : ℕ
most_files = 16

abbrev pub most_bytes : ℕ
most_bytes = 1048576

-- L2 at the first file beyond the number of files.
abbrev pub too_many : (count : ℕ) → Option Refusal
too_many count = if nat_le count most_files then None else Some (record { rule = L2; at = first_place most_files })

-- L1 at the first of these files, from the one with this number on, with which they have more than `most` bytes.
abbrev pub too_long : (number most : ℕ) → (files : List (List ℕ)) → Option Refusal
too_long number most [] = None
too_long number most (bytes ∷ files) =
    if nat_le (length bytes) most then too_long (number + 1) (most - length bytes) files else Some (record { rule = L1; at = first_place number })

-- The number of files comes before their bytes.
abbrev pub too_large : (files : List (List ℕ)) → Option Refusal
too_large files = option_or (too_many (length files)) (too_long 0 most_bytes files)
