-- The sizes of structs: each struct's size is known once those that it holds are known. Numbers above the limit all
-- count as the one above it.
use Rattle.std.specs.Prelude.{◌≡◌, ℕ, ◌+◌, ◌<◌, ◌≤◌, Bool, true, false, not, ◌&&◌, List, [], ◌∷◌, ◌++◌, map, Option, Some, None, slice_get, is_some, nat_lt, min}
use Rattle.std.specs.List.{flat_map}
use Rattle.wf_text.specs.declared.rules.Refusal.{Refusal}
use Rattle.wf_text.specs.declared.rules.Rule.TheVariants.{L7}
use Rattle.wf_names_rules.specs.Declarations.{Variable, Structure, Declared}
use Rattle.wf_names_rules.specs.Sizes.{plain_bytes, struct_held, fields_at, holds_struct, Take}
use Rattle.graphs.specs.Graphs.{Path}
use Rattle.wf_names_rules.specs.Passes.{refused_if, is_flagged}
use Rattle.wf_names_rules.specs.NameRules.{IsStructure}
use Rattle.wf_names_sizes.specs.declared.parts.FieldPart.{FieldPart}
use Rattle.wf_names_sizes.specs.declared.parts.Part.{Part}
use Rattle.wf_names_sizes.specs.declared.parts.Part.TheVariants as parts

abbrev pub capped : ℕ → ℕ
capped n = min n 1048577

-- A field by its bytes, or by the number of the struct that it holds.
abbrev pub part_with : (bytes : ℕ) → Option ℕ → Part
part_with bytes None = parts.Plain (capped bytes)
part_with bytes (Some s) = parts.Struct s

abbrev pub part_of : Declared → Variable → Part
part_of d v = part_with (plain_bytes d v.of) (struct_held d v.of)

-- The same with its name, and those of a struct.
abbrev pub field_of : Declared → Variable → FieldPart
field_of d v = record { name = v.name; part = part_of d v }

abbrev pub row_of : Declared → Structure → List FieldPart
row_of d s = map (field_of d) s.fields

-- The structs that fields hold, by their numbers.
abbrev pub struct_in : Part → List ℕ
struct_in (parts.Plain bytes) = []
struct_in (parts.Struct s) = s ∷ []

abbrev pub structs_in : List FieldPart → List ℕ
structs_in fields = flat_map (λ f. struct_in f.part) fields

-- Two sizes together, where both are known.
abbrev pub added : Option ℕ → Option ℕ → Option ℕ
added None b = None
added (Some a) None = None
added (Some a) (Some b) = Some (capped (a + b))

-- The bytes of a field of struct type; a struct that is flagged holds itself.
abbrev pub struct_bytes : (flag : Bool) → Option ℕ → Option ℕ
struct_bytes true inner = Some 8
struct_bytes false None = None
struct_bytes false (Some n) = Some (capped (8 + n))

abbrev pub size_in : Option (Option ℕ) → Option ℕ
size_in None = None
size_in (Some size) = size

abbrev pub part_bytes : (flags : List Bool) → (sizes : List (Option ℕ)) → Part → Option ℕ
part_bytes flags sizes (parts.Plain n) = Some n
part_bytes flags sizes (parts.Struct s) = struct_bytes (is_flagged (slice_get flags s)) (size_in (slice_get sizes s))

abbrev pub sum_after : (flags : List Bool) → (sizes : List (Option ℕ)) → (sum : Option ℕ) → List FieldPart → Option ℕ
sum_after flags sizes sum [] = sum
sum_after flags sizes sum (f ∷ fs) = sum_after flags sizes (added sum (part_bytes flags sizes f.part)) fs

-- The sum is beyond the limit now, and wasn't before.
abbrev pub passes : Option ℕ → Option ℕ → Bool
passes None b = false
passes (Some a) None = false
passes (Some a) (Some b) = not (nat_lt 1048576 a) && nat_lt 1048576 b

-- The field of a list that passes the limit; `sum` is that of the fields before it.
abbrev pub too_large_struct : (flags : List Bool) → (sizes : List (Option ℕ)) → (sum : Option ℕ) → List FieldPart → List (Option Refusal)
too_large_struct flags sizes sum [] = []
too_large_struct flags sizes sum (f ∷ fs) =
    refused_if (passes sum (added sum (part_bytes flags sizes f.part))) L7 f.name.at
    ∷ too_large_struct flags sizes (added sum (part_bytes flags sizes f.part)) fs

abbrev pub struct_large : Declared → (flags : List Bool) → (sizes : List (Option ℕ)) → Structure → List (Option Refusal)
struct_large d flags sizes s = too_large_struct flags sizes (Some 0) (row_of d s)

-- Flags of the structs: whether one holds itself.
pub record AreHolding (d : Declared) (flags : List Bool) : Type 0 where
  pub sound : (s : ℕ) → is_flagged (slice_get flags s) ≡ true → Path (holds_struct d) s s
  pub complete : (s : ℕ) → Path (holds_struct d) s s → is_flagged (slice_get flags s) ≡ true

-- What fields take, capped.
pub record TakesCapped (d : Declared) (vs : List Variable) (n : ℕ) : Type 0 where
  pub whole : ℕ
  pub takes : Take d vs whole
  pub is : n ≡ capped whole

-- Each size that is known is the one that the struct's fields take.
abbrev pub AreSizes : Declared → (sizes : List (Option ℕ)) → Type 0
AreSizes d sizes = (s n : ℕ) → size_in (slice_get sizes s) ≡ Some n → TakesCapped d (fields_at (slice_get d.structs s)) n

-- A struct's size is known if the sizes are of all that it holds.
abbrev pub IsSettled : (flags : List Bool) → (sizes : List (Option ℕ)) → List FieldPart → ℕ → Type 0
IsSettled flags sizes row s = is_some (sum_after flags sizes (Some 0) row) ≡ true → is_some (size_in (slice_get sizes s)) ≡ true

abbrev pub AreSettled : (flags : List Bool) → (sizes : List (Option ℕ)) → (rows : List (List FieldPart)) → Type 0
AreSettled flags sizes rows = (s : ℕ) (row : List FieldPart) → slice_get rows s ≡ Some row → IsSettled flags sizes row s

-- What the rule says: the field that passes the limit of a struct's bytes.
pub record HasLargeField (d : Declared) (s : Refusal) : Type 0 where
  pub structure : Structure
  pub front : List Variable
  pub back : List Variable
  pub variable : Variable
  pub before : ℕ
  pub since : ℕ
  pub is : IsStructure d structure
  pub fields : structure.fields ≡ front ++ variable ∷ back
  pub takes_before : Take d front before
  pub least : before ≤ 1048576
  pub takes_since : Take d (front ++ variable ∷ []) since
  pub most : 1048576 < since
  pub refused : s ≡ record { rule = L7; at = variable.name.at }
