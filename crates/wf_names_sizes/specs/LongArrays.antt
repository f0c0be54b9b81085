-- Arrays that are too long: what the pass over the variables of a package finds.
use Rattle.std.specs.Prelude.{◌≡◌, Bool, true, false, ◌||◌, List, [], ◌++◌, map, Option, nat_lt}
use Rattle.std.specs.List.{flat_map}
use Rattle.wf_text.specs.declared.rules.Refusal.{Refusal}
use Rattle.wf_text.specs.declared.rules.Rule.TheVariants.{L7}
use Rattle.wf_text.specs.Precedence.{soonest}
use Rattle.wf_ast.specs.ParsedTree as tree
use Rattle.wf_ast.specs.ParsedTree.{ExprTree, TypeTree}
use Rattle.wf_names_rules.specs.Declarations.{Variable, Structure, Method, Declared}
use Rattle.wf_names_rules.specs.ConstantValues.{Sized}
use Rattle.wf_names_rules.specs.Sizes.{number_or_zero, is_too_long}
use Rattle.wf_names_rules.specs.Passes.{refused_if}
use Rattle.wf_names_rules.specs.NameRules.{IsSizedHere}

-- A variable whose type has an array that is too long; `locals` hide constants in it.
abbrev pub too_long_array : Declared → (locals : List Variable) → Variable → Option Refusal
too_long_array d locals v = refused_if (is_too_long d locals v.of) L7 v.name.at

abbrev pub struct_longs : Declared → Structure → List (Option Refusal)
struct_longs d s = map (too_long_array d []) s.fields

abbrev pub method_longs : Declared → Method → List (Option Refusal)
method_longs d m = map (too_long_array d m.locals) m.args ++ map (too_long_array d m.locals) m.locals

-- Those of a package: fields, then arguments and locals.
abbrev pub arrays_found : Declared → (found : Option Refusal) → Option Refusal
arrays_found d found = soonest (soonest found (flat_map (struct_longs d) d.structs)) (flat_map (method_longs d) d.methods)

-- What the rule says: a variable with an array of more than 65,536 elements.
pub record HasLongArray (d : Declared) (s : Refusal) : Type 0 where
  pub locals : List Variable
  pub variable : Variable
  pub here : IsSizedHere d locals variable
  pub long : is_too_long d locals variable.of ≡ true
  pub refused : s ≡ record { rule = L7; at = variable.name.at }

-- The same by tables; `value` is that of an expression.
abbrev pub is_long_by : (value : ExprTree → Option Sized) → TypeTree → Bool
is_long_by value (tree.slice_of at element) = is_long_by value element
is_long_by value (tree.array_of length at element) = nat_lt 65536 (number_or_zero (value length)) || is_long_by value element
is_long_by value _ = false

abbrev pub too_long_array_by : (value : ExprTree → Option Sized) → Variable → Option Refusal
too_long_array_by value v = refused_if (is_long_by value v.of) L7 v.name.at
