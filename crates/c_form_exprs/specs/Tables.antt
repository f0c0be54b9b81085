-- Tables from names to what they declare.
use Rattle.std.specs.Prelude.{◌≡◌, ◌<◌, ℕ, List, [], Option, None, Some, if◌then◌else◌, length, position, slice_get, unwrap_or}
use Rattle.std.specs.Option.{option_map}
use Rattle.std.specs.Str.{bytes_eq}
use Rattle.std.specs.Map.{lookup}
use Rattle.interner.specs.Interning.{digest}
use Rattle.c_text.specs.CNodes.{bytes_at}

-- What a name declares.
abbrev pub named : {V : Type 0} → List (List ℕ × V) → List ℕ → Option V
named table name = lookup (bytes_eq name) table

-- A table of names of a unit: the unit's names, each at its number, and the names of the table with what they declare, in the
-- order in which they were added.
pub record Table (V : Type 0) : Type 0 where
  pub names : List (List ℕ)
  pub entries : List (List ℕ × V)

-- What is kept of each name, by its number, is its place in a table.
abbrev pub TellsPlaces : {V : Type 0} → (place : ℕ → Option ℕ) → (names : List (List ℕ)) → List (List ℕ × V) → Type 0
TellsPlaces place names table = (n : ℕ) → n < length names → place n ≡ position (λ entry. bytes_eq entry.0 (bytes_at names n)) table

-- The bytes of the name at a place.
abbrev pub name_at : {V : Type 0} → List (List ℕ × V) → ℕ → List ℕ
name_at table n = unwrap_or (option_map (λ entry. entry.0) (slice_get table n)) []

-- What is found of a name, where `first` is the place that its digest has, and `other` what a map of other names has of it.
abbrev pub found : {V : Type 0} → List (List ℕ × V) → List ℕ → Option ℕ → Option ℕ → Option ℕ
found table name None other = None
found table name (Some n) other = if bytes_eq (name_at table n) name then Some n else other

-- Places by digests, and the places of names whose digest another had before, tell each name's place in a table.
pub record FindsPlaces {V : Type 0} (first : ℕ → Option ℕ) (other : List ℕ → Option ℕ) (table : List (List ℕ × V)) : Type 0 where
  pub within : (made n : ℕ) → first made ≡ Some n → n < length table
  pub finds : (name : List ℕ) → found table name (first (digest name)) (other name) ≡ position (λ entry. bytes_eq entry.0 name) table
  pub none : (name : List ℕ) → first (digest name) ≡ None → other name ≡ None
