-- What each pass over a list of names finds, item by item. The laws of the passes tell that these are what the
-- table of rules says.
use Rattle.std.specs.Prelude.{ℕ, ◌+◌, ◌&&◌, ◌||◌, Bool, true, false, not, List, [], ◌∷◌, map, length, Option, Some, None, slice_get, nat_eq, nat_lt, nat_le}
use Rattle.std.specs.List.{list_any}
use Rattle.indexmap.specs.IndexSet.{insert_key}
use Rattle.wf_text.specs.declared.place.Place.{Place}
use Rattle.wf_text.specs.declared.rules.Rule.{Rule}
use Rattle.wf_text.specs.declared.rules.Refusal.{Refusal}
use Rattle.wf_text.specs.declared.rules.Rule.TheVariants.{N2, N3}
use Rattle.wf_ast.specs.declared.parsed.Name.{Name}
use Rattle.wf_names_rules.specs.Declarations.{bytes_in}
use Rattle.wf_names_rules.specs.Reserved.{is_reserved, is_initialize}

-- That a rule is broken at a name, if it is.
abbrev pub refused_if : Bool → Rule → Place → Option Refusal
refused_if true rule at = Some (record { rule = rule; at = at })
refused_if false rule at = None

-- Names declared twice; `seen` are those before it, each once.
abbrev pub doubles_of : (seen : List ℕ) → List Name → List (Option Refusal)
doubles_of seen [] = []
doubles_of seen (name ∷ names) = refused_if (list_any (nat_eq name.text.0) seen) N2 name.at ∷ doubles_of (insert_key nat_eq seen name.text.0) names

-- Whether the texts of these names rise from one to the next, the first from `low` on. New names do.
abbrev pub rise_from : (low : ℕ) → List Name → Bool
rise_from low [] = true
rise_from low (name ∷ names) = not (nat_lt name.text.0 low) && rise_from (name.text.0 + 1) names

-- Whether a name has this text.
abbrev pub have_text : (text : ℕ) → List Name → Bool
have_text text names = list_any (λ (other : Name). nat_eq text other.text.0) names

-- Whether no two of these names are alike.
abbrev pub are_apart : List Name → Bool
are_apart [] = true
are_apart (name ∷ names) = not (have_text name.text.0 names) && are_apart names

-- Whether it is seen without a set that no two of these names are alike: they rise, or they are few.
abbrev pub are_plainly_apart : List Name → Bool
are_plainly_apart names = rise_from 0 names || (nat_le (length names) 8 && are_apart names)

abbrev pub bytes_at : List (List ℕ) → Name → List ℕ
bytes_at texts name = bytes_in (slice_get texts name.text.0)

-- Names that are reserved.
abbrev pub reserved_name : List (List ℕ) → Name → Option Refusal
reserved_name texts name = refused_if (is_reserved (bytes_at texts name)) N3 name.at

abbrev pub reserved_of : List (List ℕ) → List Name → List (Option Refusal)
reserved_of texts names = map (reserved_name texts) names

-- Methods of the name `initialize`.
abbrev pub initialize : List (List ℕ) → Name → Option Refusal
initialize texts name = refused_if (is_initialize (bytes_at texts name)) N3 name.at

abbrev pub initializes_of : List (List ℕ) → List Name → List (Option Refusal)
initializes_of texts names = map (initialize texts) names

-- Names of numbers that are flagged, as those of a graph that have a way back; each breaks the rule.
abbrev pub is_flagged : Option Bool → Bool
is_flagged (Some true) = true
is_flagged _ = false

abbrev pub flagged_from : Rule → (a : ℕ) → List Bool → List Name → List (Option Refusal)
flagged_from rule a flags [] = []
flagged_from rule a flags (name ∷ names) = refused_if (is_flagged (slice_get flags a)) rule name.at ∷ flagged_from rule (a + 1) flags names

-- The name that passes a limit, if there are so many.
abbrev pub beyond_in : Rule → Option Name → Option Refusal
beyond_in rule None = None
beyond_in rule (Some name) = Some (record { rule = rule; at = name.at })

abbrev pub beyond : Rule → (limit : ℕ) → List Name → Option Refusal
beyond rule limit names = beyond_in rule (slice_get names limit)
