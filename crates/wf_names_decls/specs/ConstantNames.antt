-- Constants by their texts.
use Rattle.std.specs.Prelude.{◌≡◌, ℕ, List, Option, Some, None, map, slice_get}
use Rattle.wf_ast.specs.declared.parsed.Name.{Name}
use Rattle.wf_names_rules.specs.declared.tables.Variables.{Variables}
use Rattle.wf_names_rules.specs.Declarations.{Declared, as_variable, place_in}
use Rattle.wf_names_rules.specs.Tables.{place_at}

abbrev pub name_at : List Name → (place : Option ℕ) → Option Name
name_at names None = None
name_at names (Some n) = slice_get names n

-- The name of the constant that this text stands for, by the names of all constants in order and the table of their places.
abbrev pub constant_by : List Name → Variables → ℕ → Option Name
constant_by names places text = name_at names (place_at places text)

-- The table has the places of the constants of a package, of those with one name that of the first.
abbrev pub AreConstantPlaces : Declared → Variables → Type 0
AreConstantPlaces d places = (text : ℕ) → place_at places text ≡ place_in (map as_variable d.constants) text
