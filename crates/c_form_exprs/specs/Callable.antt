-- Which types of the unit are those of numbers.
use Rattle.std.specs.Prelude.{Bool, true, false, Option, Some, None}
use Rattle.c_text.specs.declared.nodes.CType.{CType}
use Rattle.c_text.specs.declared.nodes.CType.TheVariants as type

abbrev pub is_numeric_type : CType → Bool
is_numeric_type (type.Uint u) = true
is_numeric_type type.Size = true
is_numeric_type type.Bool = true
is_numeric_type (type.UintPointer u) = false
is_numeric_type (type.StructPointer n) = false
is_numeric_type type.Text = false

abbrev pub gives_numeric : Option CType → Bool
gives_numeric None = false
gives_numeric (Some t) = is_numeric_type t
