-- What an expression means to the rules of types, and what stands round it. A constant expression means its number, with
-- its width where a name or an `as` gives it one; everything else means its type. What breaks a rule, or has a part that
-- does, means nothing. Numbers are of any size here; literals lie below 2 ^ 64, and so does all that is worked out of them.
use Rattle.std.specs.Prelude.{ℕ, ◌-◌, ◌^◌, Bool, true, false, Option, None, Some, option_map, nat_eq, slice_get}
use Rattle.wf_text.specs.declared.place.Place.{Place}
use Rattle.wf_base.specs.declared.widths.Width.{Width}
use Rattle.wf_base.specs.BaseTable.{bits_of}
use Rattle.wf_ast.specs.declared.types.Ty.{Ty}
use Rattle.wf_ast.specs.declared.types.Ty.TheVariants as types
use Rattle.wf_named.specs.declared.nodes.Variable.{Variable}
use Rattle.wf_named.specs.declared.nodes.Variable.TheVariants as variables
use Rattle.wf_named.specs.NamedTree.{NamedExprTree, number, status, truth, path, index, slice, answer, chain, convert, negation, call}
use Rattle.wf_types_rules.specs.declared.meanings.Meaning.{Meaning}
use Rattle.wf_types_rules.specs.declared.meanings.Meaning.TheVariants as meanings
use Rattle.wf_types_rules.specs.declared.meanings.Constant.{Constant}
use Rattle.wf_types_rules.specs.declared.settings.Setting.{Setting}

-- All numbers of a width.
abbrev pub all_of : Width → Ty
all_of width = types.Num width 0 (2 ^ bits_of width - 1)

abbrev pub same_width : (a b : Width) → Bool
same_width a b = nat_eq (bits_of a) (bits_of b)

-- What is there, of what may be absent in a list or have no meaning.
abbrev pub there : {X : Type 0} → Option (Option X) → Option X
there None = None
there (Some x) = x

abbrev pub as_constant : Constant → Meaning
as_constant c = meanings.Constant (Some c.width) c.value

-- What a variable is.
abbrev pub variable : Setting → Variable → Option Meaning
variable s (variables.Const c) = option_map as_constant (there (slice_get s.constants c.0))
variable s (variables.Local x) = option_map meanings.Typed (there (slice_get s.locals x.0))
variable s (variables.Field x) = option_map meanings.Typed (there (slice_get s.fields x.0))
variable s (variables.Arg x) = option_map meanings.Typed (there (slice_get s.args x.0))

-- Arrays, structs and io are no values: an array or io stands before a base method, an array also before a `[`,
-- a struct before a method of its own, and io as an argument.
abbrev pub is_value : Meaning → Bool
is_value (meanings.Typed types.Reader) = false
is_value (meanings.Typed types.Writer) = false
is_value (meanings.Typed (types.Array width lo hi count)) = false
is_value (meanings.Typed (types.Part part)) = false
is_value m = true

abbrev pub is_io : Meaning → Bool
is_io (meanings.Typed types.Reader) = true
is_io (meanings.Typed types.Writer) = true
is_io m = false

abbrev pub is_number : Meaning → Bool
is_number (meanings.Constant width value) = true
is_number (meanings.Typed (types.Num width lo hi)) = true
is_number m = false

abbrev pub is_flag : Meaning → Bool
is_flag (meanings.Typed types.Flag) = true
is_flag m = false

abbrev pub is_status : Meaning → Bool
is_status (meanings.Typed types.Status) = true
is_status m = false

abbrev pub is_constant : Meaning → Bool
is_constant (meanings.Constant width value) = true
is_constant m = false

-- The number of a constant expression.
abbrev pub constant_number : Meaning → Option ℕ
constant_number (meanings.Constant width value) = Some value
constant_number m = None

-- The width of a number. A constant of literals alone has none.
abbrev pub width_of : Meaning → Option Width
width_of (meanings.Constant width value) = width
width_of (meanings.Typed (types.Num width lo hi)) = Some width
width_of m = None

-- The place of an expression.
abbrev pub place_of : NamedExprTree → Place
place_of (number value at) = at
place_of (status n at) = at
place_of (truth value at) = at
place_of (path p) = p.at
place_of (index p i at) = at
place_of (slice p from to at) = at
place_of (answer (call callee at mark args)) = at
place_of (chain op first links at) = at
place_of (convert e t at) = at
place_of (negation e at) = at
