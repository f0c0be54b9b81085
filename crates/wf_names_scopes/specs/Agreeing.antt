-- What it is that tables tell what the declarations of a package mean.
use Rattle.std.specs.Prelude.{◌≡◌, ◌+◌, ◌++◌, ℕ, ⊤, List, [], ◌∷◌, Option, Some, None, length, map, slice_get, nat_eq, option_map}
use Rattle.std.specs.List.{list_any, position_from}
use Rattle.indexmap.specs.IndexSet.{contains}
use Rattle.wf_names_rules.specs.declared.sorts.Sort.{Sort}
use Rattle.wf_names_rules.specs.declared.tables.Numbers.{Numbers}
use Rattle.wf_names_rules.specs.declared.tables.Variables.{Variables}
use Rattle.wf_names_rules.specs.declared.tables.MethodVariables.{MethodVariables}
use Rattle.wf_names_rules.specs.declared.tables.Tables.{Tables}
use Rattle.wf_names_rules.specs.declared.tables.Scope.{Scope as ScopeTables}
use Rattle.wf_ast.specs.declared.parsed.Name.{Name}
use Rattle.wf_names_rules.specs.Declarations.{Variable, Method, Declared, as_variable, bytes_of, is_spelt, method_named, variable_named, place_in, fields_of}
use Rattle.wf_names_rules.specs.Meanings.{Known, sort_of, sort_in, names_once}
use Rattle.wf_names_rules.specs.Pairs.{pair_at}
use Rattle.wf_names_rules.specs.Tables.{number_at, pair_sort, pair_place, sort_at, place_at, names_known}
use Rattle.wf_names_rules.specs.Uses.{Scope}

-- The same is known: each look-up answers the same.
pub record Agree (a b : Known) : Type 0 where
  pub bytes : (text : ℕ) → a.bytes text ≡ b.bytes text
  pub is_status : (text : ℕ) → a.is_status text ≡ b.is_status text
  pub is_struct : (text : ℕ) → a.is_struct text ≡ b.is_struct text
  pub local : (text : ℕ) → a.local text ≡ b.local text
  pub constant : (text : ℕ) → a.constant text ≡ b.constant text
  pub field : (text : ℕ) → a.field text ≡ b.field text
  pub arg : (text : ℕ) → a.arg text ≡ b.arg text
  pub own_method : (text : ℕ) → a.own_method text ≡ b.own_method text
  pub struct_method : (owner text : ℕ) → a.struct_method owner text ≡ b.struct_method owner text
  pub is_method : (text : ℕ) → a.is_method text ≡ b.is_method text
  pub is_public : (m : ℕ) → a.is_public m ≡ b.is_public m
  pub args : (m : ℕ) → a.args m ≡ b.args m

-- A table tells by which number each of these names stands: by its place, counted from `first`. Of those that are spelt
-- alike the first is meant.
pub record TellsNumbers {X : Type 0} (first : ℕ) (name : X → Name) (named : List X) (t : Numbers) : Type 0 where
  pub next : t.next ≡ first + length named
  pub numbers : (text : ℕ) → number_at t text ≡ position_from (λ x. is_spelt text (name x)) first named

-- What may be called on the first of these variables that has this name; `texts` are those of the package.
abbrev pub sort_among : (texts : List (List ℕ)) → List Variable → ℕ → Option Sort
sort_among texts variables text = option_map (λ v. sort_of (bytes_of texts) v.of) (variable_named variables text)

-- A table tells what may be called on these variables, and their places, and it has their names, each once, in order.
pub record TellsVariables (texts : List (List ℕ)) (variables : List Variable) (t : Variables) : Type 0 where
  pub next : t.next ≡ length variables
  pub sorts : (text : ℕ) → sort_at t text ≡ sort_among texts variables text
  pub places : (text : ℕ) → place_at t text ≡ place_in variables text
  pub names : names_known t ≡ names_once variables

-- Tables tell the arguments and the locals of a method, and of methods one after the other.
pub record TellsMethod (texts : List (List ℕ)) (m : Method) (t : MethodVariables) : Type 0 where
  pub args : TellsVariables texts m.args t.args
  pub locals : TellsVariables texts m.locals t.locals

abbrev pub TellMethods : (texts : List (List ℕ)) → List Method → List MethodVariables → Type 0
TellMethods texts [] [] = ⊤
TellMethods texts (m ∷ ms) (t ∷ ts) = TellsMethod texts m t × TellMethods texts ms ts
TellMethods texts _ _ = ⊥

-- The tables of a package tell what its declarations mean, and by which number each name stands: a status by its place
-- after the ten of the language, a struct by its place among the structs, a constant by its place among the constants, a
-- field by its place in its struct. Of two declarations with one name the first is meant.
pub record TellsPackage (d : Declared) (t : Tables) : Type 0 where
  pub statuses : TellsNumbers 10 (λ name. name) d.statuses t.statuses
  pub structs : TellsNumbers 0 (λ s. s.name) d.structs t.structs
  pub constants : TellsVariables d.texts (map as_variable d.constants) t.constants
  pub fields : (owner text : ℕ) → pair_sort t.fields (owner, text) ≡ sort_in d (fields_of d owner) text
  pub places : (owner text : ℕ) → pair_place t.fields (owner, text) ≡ place_in (fields_of d owner) text
  pub methods : (owner text : ℕ) → pair_at t.methods (owner, text) ≡ method_named d owner text
  pub method_names : (text : ℕ) → contains nat_eq t.method_names text ≡ list_any (λ m. is_spelt text m.name) d.methods
  pub publics : t.publics.items ≡ map (λ m. m.public) d.methods
  pub variables : TellMethods d.texts d.methods t.variables.items

-- The method whose number this is has the arguments and the locals of the scope.
pub record IsInMethod (d : Declared) (scope : Scope) (m : ℕ) : Type 0 where
  pub method : Method
  pub at : slice_get d.methods m ≡ Some method
  pub args : scope.args ≡ method.args
  pub locals : scope.locals ≡ method.locals

-- The scope is inside this method, or outside all of them.
abbrev pub IsInside : Declared → Scope → (method : Option ℕ) → Type 0
IsInside d scope None = (scope.args ≡ []) × (scope.locals ≡ [])
IsInside d scope (Some m) = IsInMethod d scope m

-- The first `count` constants of the package are these.
pub record AreFirstConstants (d : Declared) (known : List Variable) (count : ℕ) : Type 0 where
  pub left : List Variable
  pub split : known ++ left ≡ map as_variable d.constants
  pub count_is : count ≡ length known

-- The tables of a scope tell what is known there besides.
pub record TellsScope (d : Declared) (scope : Scope) (t : ScopeTables) : Type 0 where
  pub constants : AreFirstConstants d scope.constants t.constants
  pub this : t.this ≡ scope.this
  pub inside : IsInside d scope t.method

-- All constants of the package are known.
abbrev pub TellsConstants : Declared → ScopeTables → Type 0
TellsConstants d t = AreFirstConstants d (map as_variable d.constants) t.constants
