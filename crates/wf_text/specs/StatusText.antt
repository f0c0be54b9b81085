-- The kind of a status, by the first byte of its text.
use Rattle.std.specs.Prelude.{ℕ, List, [], ◌∷◌, nat_eq, if◌then◌else◌}
use Rattle.wf_text.specs.declared.categories.Category.{Category}
use Rattle.wf_text.specs.declared.categories.Category.TheVariants.{Fine, Note, Suspension, Fault}

-- 64 is `@`, 36 is `$`, 35 is `#`.
abbrev pub category_by : ℕ → Category
category_by byte = if nat_eq byte 64 then Note else if nat_eq byte 36 then Suspension else if nat_eq byte 35 then Fault else Fine

abbrev pub category_of : List ℕ → Category
category_of [] = Fine
category_of (byte ∷ _) = category_by byte
