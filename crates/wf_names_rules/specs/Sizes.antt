-- How long arrays are, and how many bytes the fields of a struct take.
use Rattle.std.specs.Prelude.{◌≡◌, ℕ, ◌+◌, ◌*◌, ◌/◌, Bool, true, false, ◌||◌, List, [], ◌∷◌, Option, Some, None, slice_get, nat_eq, nat_lt, is_some, codes}
use Rattle.std.specs.List.{list_any}
use Rattle.std.specs.Str.{bytes_eq}
use Rattle.wf_base.specs.declared.widths.Width.{Width}
use Rattle.wf_base.specs.BaseTable.{bits_of}
use Rattle.wf_ast.specs.ParsedTree as tree
use Rattle.wf_ast.specs.ParsedTree.{TypeTree}
use Rattle.wf_names_rules.specs.Declarations.{Variable, Structure, Declared, text_of, struct_named, variable_named}
use Rattle.wf_names_rules.specs.Meanings.{width_of}
use Rattle.wf_names_rules.specs.ConstantValues.{Sized, value_of, known_constants}
use Rattle.graphs.specs.Graphs.{Path}

-- A local hides a constant.
abbrev pub hidden_by : List Variable → ℕ → Bool
hidden_by locals text = is_some (variable_named locals text)

-- A length that has no value counts as 0.
abbrev pub number_or_zero : Option Sized → ℕ
number_or_zero None = 0
number_or_zero (Some a) = a.number

-- Whether a type has an array, nested ones too, that is longer than 65,536.
abbrev pub is_too_long : Declared → List Variable → TypeTree → Bool
is_too_long d locals (tree.slice_of at element) = is_too_long d locals element
is_too_long d locals (tree.array_of length at element) =
    nat_lt 65536 (number_or_zero (value_of d (hidden_by locals) (known_constants d) length)) || is_too_long d locals element
is_too_long d locals _ = false

-- The bytes that a width takes.
abbrev pub width_bytes : Option Width → ℕ
width_bytes None = 0
width_bytes (Some width) = bits_of width / 8

abbrev pub flag_bytes : Bool → ℕ → ℕ
flag_bytes true n = 1
flag_bytes false n = n

-- The bytes of a field, but for one of struct type. One of a type that a field can't have takes none.
abbrev pub plain_bytes : Declared → TypeTree → ℕ
plain_bytes d (tree.base_type name at bounds) = flag_bytes (bytes_eq (text_of d name.text.0) (codes "bool")) (width_bytes (width_of (text_of d) (tree.base_type name at bounds)))
plain_bytes d (tree.status_type at bounds) = 8
plain_bytes d (tree.array_of length at element) = number_or_zero (value_of d (λ text. false) (known_constants d) length) * width_bytes (width_of (text_of d) element)
plain_bytes d _ = 0

-- The struct that a field holds: one whose name is the whole type.
abbrev pub struct_held : Declared → TypeTree → Option ℕ
struct_held d (tree.struct_type name) = struct_named d name.text.0
struct_held d _ = None

abbrev pub is_the : ℕ → Option ℕ → Bool
is_the b None = false
is_the b (Some a) = nat_eq b a

abbrev pub fields_at : Option Structure → List Variable
fields_at None = []
fields_at (Some s) = s.fields

-- The graph of the structs, by number, that hold each other.
abbrev pub holds_struct : Declared → ℕ → ℕ → Bool
holds_struct d a b = list_any (λ v. is_the b (struct_held d v.of)) (fields_at (slice_get d.structs a))

-- The bytes of fields: a field of struct type takes 8, and as many as the fields of its struct unless that struct
-- holds itself.
pub data Take (d : Declared) : List Variable → ℕ → Type 0 where
  nothing : Take d [] 0
  plain : (v : Variable) (vs : List Variable) (n : ℕ) → struct_held d v.of ≡ None → Take d vs n → Take d (v ∷ vs) (plain_bytes d v.of + n)
  part : (v : Variable) (vs : List Variable) (s : ℕ) (inner n : ℕ) → struct_held d v.of ≡ Some s → (Path (holds_struct d) s s → ⊥)
      → Take d (fields_at (slice_get d.structs s)) inner → Take d vs n → Take d (v ∷ vs) (8 + inner + n)
  cycle : (v : Variable) (vs : List Variable) (s n : ℕ) → struct_held d v.of ≡ Some s → Path (holds_struct d) s s → Take d vs n → Take d (v ∷ vs) (8 + n)
