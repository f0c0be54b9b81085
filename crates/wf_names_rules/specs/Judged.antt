-- What the uses of names break, one after the other: the first refusal of what was found before and what a use breaks.
use Rattle.std.specs.Prelude.{ℕ, Bool, true, false, not, ◌&&◌, List, [], ◌∷◌, map, Option, Some, None, nat_eq}
use Rattle.std.specs.List.{list_any}
use Rattle.indexmap.specs.IndexSet.{insert_key}
use Rattle.wf_text.specs.declared.place.Place.{Place}
use Rattle.wf_text.specs.declared.rules.Refusal.{Refusal}
use Rattle.wf_text.specs.declared.rules.Rule.TheVariants.{N1, N2, N6, N7, N8}
use Rattle.wf_text.specs.Precedence.{sooner, soonest}
use Rattle.wf_ast.specs.declared.parsed.Name.{Name}
use Rattle.wf_ast.specs.declared.parsed.Path.{Path}
use Rattle.wf_ast.specs.declared.parsed.Root.{Root}
use Rattle.wf_ast.specs.declared.parsed.Root.TheVariants as roots
use Rattle.wf_ast.specs.ParsedTree as tree
use Rattle.wf_ast.specs.ParsedTree.{ExprTree, CallTree}
use Rattle.wf_names_rules.specs.declared.callees.Callee.{Callee}
use Rattle.wf_names_rules.specs.declared.callees.Callee.TheVariants as callees
use Rattle.wf_names_rules.specs.declared.seen.Seen.{Seen}
use Rattle.wf_names_rules.specs.declared.sorts.Sort.{Sort}
use Rattle.wf_names_rules.specs.Passes.{refused_if, doubles_of}
use Rattle.wf_names_rules.specs.Uses.{Use, own_status, base_status, variable, structure, method}
use Rattle.wf_names_rules.specs.Meanings.{Known, GivenValue, Parameters, call_name, call_args, callee_of, is_known, has_meaning, call_has_meaning, parameters_of, is_parameter, lacks_one, is_io_arg}

-- A method that what it is called on doesn't have, one of another struct, and a private one called through a field.
abbrev pub unknown_method : Name → Refusal
unknown_method name = record { rule = N1; at = name.at }

abbrev pub foreign_method : Name → Refusal
foreign_method name = record { rule = N8; at = name.at }

abbrev pub private_method : Name → Refusal
private_method name = record { rule = N8; at = name.at }

-- What a call's method name breaks.
abbrev pub callee_refusal : Callee → Name → Option Refusal
callee_refusal callees.Missing name = Some (unknown_method name)
callee_refusal callees.Foreign name = Some (foreign_method name)
callee_refusal (callees.Hidden m) name = Some (private_method name)
callee_refusal _ name = None

-- An argument of the calling method as a value.
abbrev pub arg_path_at : Root → Path → Option Path
arg_path_at roots.Args path = Some path
arg_path_at _ path = None

abbrev pub arg_path : ExprTree → Option Path
arg_path (tree.path path) = arg_path_at path.root path
arg_path _ = None

-- Readers and writers passed twice; `seen` are the arguments before it, each once.
abbrev pub passed_twice_by_value : (arg : ℕ → Option Sort) → (seen : List ℕ) → Option Path → Option Refusal
passed_twice_by_value arg seen None = None
passed_twice_by_value arg seen (Some path) = refused_if (is_io_arg arg path.name.text.0 && list_any (nat_eq path.name.text.0) seen) N2 path.at

abbrev pub passed_seen : (seen : List ℕ) → Option Path → List ℕ
passed_seen seen None = seen
passed_seen seen (Some path) = insert_key nat_eq seen path.name.text.0

abbrev pub passed_twice : (arg : ℕ → Option Sort) → (seen : List ℕ) → List GivenValue → List (Option Refusal)
passed_twice arg seen [] = []
passed_twice arg seen (g ∷ gs) = passed_twice_by_value arg seen (arg_path g.value) ∷ passed_twice arg (passed_seen seen (arg_path g.value)) gs

-- The same, where of the arguments before it only readers and writers are kept.
abbrev pub io_seen_if : Bool → (seen : List ℕ) → ℕ → List ℕ
io_seen_if true seen text = insert_key nat_eq seen text
io_seen_if false seen text = seen

abbrev pub io_seen : (arg : ℕ → Option Sort) → (seen : List ℕ) → Option Path → List ℕ
io_seen arg seen None = seen
io_seen arg seen (Some path) = io_seen_if (is_io_arg arg path.name.text.0) seen path.name.text.0

abbrev pub io_passed_twice : (arg : ℕ → Option Sort) → (seen : List ℕ) → List GivenValue → List (Option Refusal)
io_passed_twice arg seen [] = []
io_passed_twice arg seen (g ∷ gs) = passed_twice_by_value arg seen (arg_path g.value) ∷ io_passed_twice arg (io_seen arg seen (arg_path g.value)) gs

-- Arguments that are given twice.
abbrev pub given_twice : List Name → List (Option Refusal)
given_twice names = doubles_of [] names

-- Arguments that the method doesn't have.
abbrev pub unknown_argument : (bytes : ℕ → List ℕ) → Parameters → Name → Option Refusal
unknown_argument bytes parameters name = refused_if (not (is_parameter bytes parameters name.text.0)) N6 name.at

abbrev pub unknown_arguments : (bytes : ℕ → List ℕ) → Parameters → List Name → List (Option Refusal)
unknown_arguments bytes parameters names = map (unknown_argument bytes parameters) names

-- That an argument of the method isn't given, at the method's name.
abbrev pub missing_argument : (bytes : ℕ → List ℕ) → Parameters → Name → List Name → Option Refusal
missing_argument bytes parameters name names = refused_if (lacks_one bytes parameters (map (λ n. n.text.0) names)) N7 name.at

-- What the arguments of a call break, where everything in it has a meaning.
abbrev pub given_judged : Known → Option Refusal → Parameters → Name → List Name → List GivenValue → Option Refusal
given_judged k found parameters name names values =
    sooner (soonest (soonest (soonest found (given_twice names)) (passed_twice k.arg [] values)) (unknown_arguments k.bytes parameters names))
    (missing_argument k.bytes parameters name names)

abbrev pub given_judged_if : Bool → Known → Option Refusal → Parameters → Name → List GivenValue → Option Refusal
given_judged_if true k found parameters name values = given_judged k found parameters name (map (λ g. g.name) values) values
given_judged_if false k found parameters name values = found

abbrev pub call_judged : Known → Option Refusal → CallTree → Option Refusal
call_judged k found c =
    given_judged_if (call_has_meaning k c) k (sooner found (callee_refusal (callee_of k c) (call_name c))) (parameters_of k.args (callee_of k c)) (call_name c) (call_args c)

-- A name that stands for nothing that it is used as: a status of the package, one of the language, a variable, a struct.
abbrev pub unknown_status : Known → Name → Option Refusal
unknown_status k text = refused_if (not (has_meaning k (own_status text))) N1 text.at

abbrev pub unknown_base_status : Known → Name → Option Refusal
unknown_base_status k text = refused_if (not (has_meaning k (base_status text))) N1 text.at

abbrev pub unknown_variable : Known → Path → Option Refusal
unknown_variable k path = refused_if (not (has_meaning k (variable path))) N1 path.name.at

abbrev pub unknown_struct : Known → Name → Option Refusal
unknown_struct k name = refused_if (not (has_meaning k (structure name))) N1 name.at

-- The first refusal of what was found before and what a use breaks.
abbrev pub judged : Known → Option Refusal → Use → Option Refusal
judged k found (own_status text) = sooner found (unknown_status k text)
judged k found (base_status text) = sooner found (unknown_base_status k text)
judged k found (variable path) = sooner found (unknown_variable k path)
judged k found (structure name) = sooner found (unknown_struct k name)
judged k found (method c) = call_judged k found c

-- A use that has a meaning or not.
abbrev pub used_so : Seen → (known : Bool) → Place → Seen
used_so seen known at = record { found = sooner seen.found (refused_if (not known) N1 at); known = seen.known && known }

-- A call after what it is made on and its values, of which `given` tells.
abbrev pub call_finished : Known → (given : Seen) → CallTree → Seen
call_finished k given c = record {
  found = given_judged_if (is_known (callee_of k c) && given.known) k (sooner given.found (callee_refusal (callee_of k c) (call_name c))) (parameters_of k.args (callee_of k c)) (call_name c) (call_args c);
  known = is_known (callee_of k c) && given.known;
}

-- A walk past one use, and past many.
abbrev pub walked_one : Known → Seen → Use → Seen
walked_one k seen usage = record { found = judged k seen.found usage; known = seen.known && has_meaning k usage }

abbrev pub walked : Known → Seen → List Use → Seen
walked k seen [] = seen
walked k seen (usage ∷ usages) = walked k (walked_one k seen usage) usages
