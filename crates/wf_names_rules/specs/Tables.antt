-- What tables know.
use Rattle.std.specs.Prelude.{ℕ, Bool, false, cond, List, [], Option, Some, None, is_some, slice_get, nat_eq, nat_lt, option_map}
use Rattle.std.specs.BTreeMap.{BTreeMap}
use Rattle.indexmap.specs.IndexMap.{IndexMap, get, keys}
use Rattle.indexmap.specs.IndexSet.{contains}
use Rattle.wf_names_rules.specs.declared.sorts.Sort.{Sort}
use Rattle.wf_names_rules.specs.declared.tables.Numbers.{Numbers}
use Rattle.wf_names_rules.specs.declared.tables.Entry.{Entry}
use Rattle.wf_names_rules.specs.declared.tables.Variables.{Variables}
use Rattle.wf_names_rules.specs.declared.tables.MethodVariables.{MethodVariables}
use Rattle.wf_names_rules.specs.declared.tables.Tables.{Tables}
use Rattle.wf_names_rules.specs.declared.tables.Scope.{Scope}
use Rattle.wf_names_rules.specs.Declarations.{bytes_in}
use Rattle.wf_names_rules.specs.Meanings.{Known}
use Rattle.wf_names_rules.specs.Pairs.{Pair, pair_at}

-- The number of a name, and whether it has one.
abbrev pub number_at : Numbers → ℕ → Option ℕ
number_at names = get nat_eq names.numbers

abbrev pub has_number : Numbers → ℕ → Bool
has_number names text = is_some (number_at names text)

-- What may be called on a variable, and its place, by a table of variables.
abbrev pub sort_by : {K S : Type 0} → (same : K → K → Bool) → IndexMap K Entry S → K → Option Sort
sort_by same table key = option_map (λ e. e.sort) (get same table key)

abbrev pub place_by : {K S : Type 0} → (same : K → K → Bool) → IndexMap K Entry S → K → Option ℕ
place_by same table key = option_map (λ e. e.place) (get same table key)

-- The same of a table of fields, by the names of their structs and their own.
abbrev pub pair_sort : BTreeMap Pair Entry → Pair → Option Sort
pair_sort fields pair = option_map (λ e. e.sort) (pair_at fields pair)

abbrev pub pair_place : BTreeMap Pair Entry → Pair → Option ℕ
pair_place fields pair = option_map (λ e. e.place) (pair_at fields pair)

abbrev pub sort_at : Variables → ℕ → Option Sort
sort_at variables = sort_by nat_eq variables.entries

abbrev pub place_at : Variables → ℕ → Option ℕ
place_at variables = place_by nat_eq variables.entries

-- The variables of a method; outside methods there are none.
abbrev pub variables_at : Tables → (method : Option ℕ) → Option MethodVariables
variables_at t None = None
variables_at t (Some m) = slice_get t.variables.items m

-- The local that has this name, and the argument.
abbrev pub local_in : Option MethodVariables → ℕ → Option Entry
local_in None text = None
local_in (Some known) text = get nat_eq known.locals.entries text

abbrev pub local_at : Tables → (method : Option ℕ) → ℕ → Option Entry
local_at t method text = local_in (variables_at t method) text

abbrev pub arg_in : Option MethodVariables → ℕ → Option Entry
arg_in None text = None
arg_in (Some known) text = get nat_eq known.args.entries text

abbrev pub arg_at : Tables → (method : Option ℕ) → ℕ → Option Entry
arg_at t method text = arg_in (variables_at t method) text

-- The constant that has this name, where it is one of the first `known`.
abbrev pub constant_in : (known : ℕ) → Option Entry → Option Entry
constant_in known None = None
constant_in known (Some entry) = cond (nat_lt entry.place known) (Some entry) None

abbrev pub constant_at : Tables → (known : ℕ) → ℕ → Option Entry
constant_at t known text = constant_in known (get nat_eq t.constants.entries text)

-- What may be called on them, and their places.
abbrev pub entry_sort : Option Entry → Option Sort
entry_sort entry = option_map (λ e. e.sort) entry

abbrev pub entry_place : Option Entry → Option ℕ
entry_place entry = option_map (λ e. e.place) entry

abbrev pub local_sort_at : Tables → (method : Option ℕ) → ℕ → Option Sort
local_sort_at t method text = entry_sort (local_at t method text)

abbrev pub arg_sort_at : Tables → (method : Option ℕ) → ℕ → Option Sort
arg_sort_at t method text = entry_sort (arg_at t method text)

abbrev pub constant_sort_at : Tables → (known : ℕ) → ℕ → Option Sort
constant_sort_at t known text = entry_sort (constant_at t known text)

abbrev pub local_place_at : Tables → (method : Option ℕ) → ℕ → Option ℕ
local_place_at t method text = entry_place (local_at t method text)

abbrev pub arg_place_at : Tables → (method : Option ℕ) → ℕ → Option ℕ
arg_place_at t method text = entry_place (arg_at t method text)

abbrev pub constant_place_at : Tables → (known : ℕ) → ℕ → Option ℕ
constant_place_at t known text = entry_place (constant_at t known text)

abbrev pub flag_in : Option Bool → Bool
flag_in None = false
flag_in (Some flag) = flag

abbrev pub public_at : Tables → ℕ → Bool
public_at t m = flag_in (slice_get t.publics.items m)

abbrev pub field_at : Tables → (this : Option ℕ) → ℕ → Option Sort
field_at t None text = None
field_at t (Some owner) text = pair_sort t.fields (owner, text)

abbrev pub own_method_at : Tables → (this : Option ℕ) → ℕ → Option ℕ
own_method_at t None text = None
own_method_at t (Some owner) text = pair_at t.methods (owner, text)

-- The names of variables, in order of declaration, and of a method's arguments; a method that isn't there has none.
abbrev pub names_known : Variables → List ℕ
names_known variables = keys variables.entries

abbrev pub arg_names_in : Option MethodVariables → List ℕ
arg_names_in None = []
arg_names_in (Some known) = names_known known.args

abbrev pub args_at : Tables → ℕ → List ℕ
args_at t m = arg_names_in (slice_get t.variables.items m)

abbrev pub known_by : List (List ℕ) → Tables → Scope → Known
known_by texts t s = record {
  bytes = λ text. bytes_in (slice_get texts text);
  is_status = has_number t.statuses;
  is_struct = has_number t.structs;
  local = local_sort_at t s.method;
  constant = constant_sort_at t s.constants;
  field = field_at t s.this;
  arg = arg_sort_at t s.method;
  own_method = own_method_at t s.this;
  struct_method = λ owner text. pair_at t.methods (owner, text);
  is_method = contains nat_eq t.method_names;
  is_public = public_at t;
  args = args_at t;
}
