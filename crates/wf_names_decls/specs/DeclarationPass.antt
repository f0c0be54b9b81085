-- What the declarations of a package break, pass by pass.
use Rattle.std.specs.Prelude.{ℕ, List, [], ◌∷◌, fold, Option, Some, None, if◌then◌else◌}
use Rattle.std.specs.List.{list_any}
use Rattle.indexmap.specs.IndexSet.{insert_key}
use Rattle.wf_text.specs.declared.rules.Refusal.{Refusal}
use Rattle.wf_text.specs.declared.rules.Rule.TheVariants.{N2, L6, L7}
use Rattle.wf_text.specs.Precedence.{sooner, soonest}
use Rattle.wf_ast.specs.declared.parsed.Name.{Name}
use Rattle.wf_names_rules.specs.Declarations.{Declared, Method, Structure, is_spelt}
use Rattle.wf_names_rules.specs.NameRules.{later_of, variable_names}
use Rattle.wf_names_rules.specs.Passes.{refused_if, doubles_of, reserved_of, initializes_of, beyond}
use Rattle.wf_names_rules.specs.Pairs.{Pair, same_pair}
use Rattle.wf_names_decls.specs.Gathering.{constant_names, struct_names, method_names, owner_names}

-- Names that an earlier one of the list has too.
abbrev pub declared_twice : List Name → List (Option Refusal)
declared_twice names = doubles_of [] names

-- Of a list of names those that are declared twice, and the reserved ones.
abbrev pub names_judged : (texts : List (List ℕ)) → Option Refusal → List Name → Option Refusal
names_judged texts found names = soonest (soonest found (declared_twice names)) (reserved_of texts names)

-- Methods of a struct that are declared twice, by the names of their structs and their own; `seen` are those before them,
-- each once.
abbrev pub pair_of : (owner name : Name) → Pair
pair_of owner name = (owner.text.0, name.text.0)

abbrev pub declared_twice_in_struct : (seen : List Pair) → (owners names : List Name) → List (Option Refusal)
declared_twice_in_struct seen [] names = []
declared_twice_in_struct seen (owner ∷ owners) [] = []
declared_twice_in_struct seen (owner ∷ owners) (name ∷ names) =
    refused_if (list_any (same_pair (pair_of owner name)) seen) N2 name.at ∷ declared_twice_in_struct (insert_key same_pair seen (pair_of owner name)) owners names

-- The method after the 1,024 that a package may have.
abbrev pub too_many_methods : List Name → Option Refusal
too_many_methods methods = beyond L6 1024 methods

abbrev pub methods_judged : (texts : List (List ℕ)) → Option Refusal → (owners names : List Name) → Option Refusal
methods_judged texts found owners names =
    sooner (soonest (soonest (soonest found (declared_twice_in_struct [] owners names)) (reserved_of texts names)) (initializes_of texts names)) (too_many_methods names)

-- The name of the list that has this text first.
abbrev pub first_spelt : List Name → ℕ → Option Name
first_spelt [] text = None
first_spelt (name ∷ names) text = if is_spelt text name then Some name else first_spelt names text

-- Locals that a constant has the name of; `constant` gives the constant.
abbrev pub local_and_constant : Option Name → Name → Option Refusal
local_and_constant None local = None
local_and_constant (Some constant) local = Some (later_of local constant)

abbrev pub locals_and_constants : (constant : ℕ → Option Name) → List Name → List (Option Refusal)
locals_and_constants constant [] = []
locals_and_constants constant (local ∷ locals) = local_and_constant (constant local.text.0) local ∷ locals_and_constants constant locals

-- The argument after the 64 that a method may have, and the local after the 256.
abbrev pub too_many_args : List Name → Option Refusal
too_many_args args = beyond L7 64 args

abbrev pub too_many_locals : List Name → Option Refusal
too_many_locals locals = beyond L7 256 locals

-- What the arguments of a method break, and its locals.
abbrev pub args_judged : (texts : List (List ℕ)) → Option Refusal → List Name → Option Refusal
args_judged texts found args = sooner (names_judged texts found args) (too_many_args args)

abbrev pub locals_judged : (constant : ℕ → Option Name) → (texts : List (List ℕ)) → Option Refusal → List Name → Option Refusal
locals_judged constant texts found locals = sooner (soonest (names_judged texts found locals) (locals_and_constants constant locals)) (too_many_locals locals)

abbrev pub struct_judged : (texts : List (List ℕ)) → Option Refusal → Structure → Option Refusal
struct_judged texts found s = names_judged texts found (variable_names s.fields)

abbrev pub method_judged : (constant : ℕ → Option Name) → (texts : List (List ℕ)) → Option Refusal → Method → Option Refusal
method_judged constant texts found m = locals_judged constant texts (args_judged texts found (variable_names m.args)) (variable_names m.locals)

-- The first refusal of what was found before and the names of the package: statuses, constants, structs and methods.
abbrev pub statuses_found : Declared → Option Refusal → Option Refusal
statuses_found d found = soonest found (declared_twice d.statuses)

abbrev pub constants_found : Declared → Option Refusal → Option Refusal
constants_found d found = names_judged d.texts found (constant_names d)

abbrev pub structs_found : Declared → Option Refusal → Option Refusal
structs_found d found = names_judged d.texts found (struct_names d)

abbrev pub methods_found : Declared → Option Refusal → Option Refusal
methods_found d found = methods_judged d.texts found (owner_names d) (method_names d)

abbrev pub names_found : Declared → Option Refusal → Option Refusal
names_found d found = methods_found d (structs_found d (constants_found d (statuses_found d found)))

-- And the names in its structs and methods.
abbrev pub fields_found : Declared → Option Refusal → Option Refusal
fields_found d found = fold (struct_judged d.texts) found d.structs

abbrev pub variables_found : Declared → Option Refusal → Option Refusal
variables_found d found = fold (method_judged (first_spelt (constant_names d)) d.texts) found d.methods

abbrev pub declarations_found : Declared → Option Refusal → Option Refusal
declarations_found d found = variables_found d (fields_found d (names_found d found))
