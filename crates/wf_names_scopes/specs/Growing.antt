-- Tables that grow by a name at a time, of which the first declared keeps its place.
use Rattle.std.specs.Prelude.{◌≡◌, ℕ, Bool, cond, List, [], ◌∷◌, ◌++◌, length, map, Option, Some, None, nat_eq}
use Rattle.std.specs.Option.{option_or}
use Rattle.std.specs.List.{position_from}
use Rattle.wf_text.specs.declared.rules.Refusal.{Refusal}
use Rattle.wf_names_rules.specs.declared.tables.Variables.{Variables}
use Rattle.wf_names_rules.specs.declared.tables.Scope.{Scope as ScopeTables}
use Rattle.wf_ast.specs.declared.parsed.Name.{Name}
use Rattle.wf_names_rules.specs.Declarations.{Variable, Constant, Structure, Method, Declared, as_variable, is_spelt}
use Rattle.wf_names_rules.specs.Uses.{Scope, constant_scope, constant_sites}
use Rattle.wf_names_rules.specs.Pairs.{Pair}
use Rattle.wf_names_scopes.specs.Agreeing.{TellsVariables, TellsScope}
use Rattle.wf_names_scopes.specs.UsesFound.{sites_judged}

-- What a table answers after one more key, where `look` is what it answers before it.
abbrev pub with_first : {K X : Type 0} → (same : K → K → Bool) → (look : K → Option X) → K → X → K → Option X
with_first same look key value other = option_or (look other) (cond (same key other) (Some value) None)

-- The place of the first of these variables that has this name, where the first of all is at `place`.
abbrev pub place_from : (place : ℕ) → List Variable → ℕ → Option ℕ
place_from place variables text = position_from (λ v. is_spelt text v.name) place variables

-- What a table of fields answers after the fields of one more struct, of which `among` tells what it answers of them.
abbrev pub with_fields : {X : Type 0} → (look : Pair → Option X) → (owner : ℕ) → (among : List Variable → ℕ → Option X) → List Variable → (other text : ℕ) → Option X
with_fields look owner among fields other text = option_or (look (other, text)) (cond (nat_eq owner other) (among fields text) None)

-- A table tells the variables before `rest`; with these they are the whole.
pub record TellsUpTo (texts : List (List ℕ)) (rest whole : List Variable) (table : Variables) : Type 0 where
  pub front : List Variable
  pub split : front ++ rest ≡ whole
  pub tells : TellsVariables texts front table

-- The methods before `left` are `n`.
pub record AreLeft (d : Declared) (n : ℕ) (left : List Method) : Type 0 where
  pub front : List Method
  pub whole : d.methods ≡ front ++ left
  pub long : length front ≡ n

-- The next methods, after the first `n`, are these.
abbrev pub AreNext : Declared → (n : ℕ) → List Method → Type 0
AreNext d n ms = (left : List Method) × AreLeft d n (ms ++ left)

-- Packages with one more declaration.
abbrev pub with_status : Declared → Name → Declared
with_status d name = record { texts = d.texts; statuses = d.statuses ++ name ∷ []; constants = d.constants; structs = d.structs; methods = d.methods }

abbrev pub with_constant : Declared → Constant → Declared
with_constant d c = record { texts = d.texts; statuses = d.statuses; constants = d.constants ++ c ∷ []; structs = d.structs; methods = d.methods }

abbrev pub with_struct : Declared → Structure → Declared
with_struct d s = record { texts = d.texts; statuses = d.statuses; constants = d.constants; structs = d.structs ++ s ∷ []; methods = d.methods }

abbrev pub with_method : Declared → Method → Declared
with_method d m = record { texts = d.texts; statuses = d.statuses; constants = d.constants; structs = d.structs; methods = d.methods ++ m ∷ [] }

-- What is known in a declaration of the struct with this name, where all constants are.
abbrev pub scope_in : Declared → (owner : Name) → (args locals : List Variable) → Scope
scope_in d owner args locals = record { constants = map as_variable d.constants; this = Some owner.text.0; args = args; locals = locals }

-- The constants before `rest` are passed.
pub record AreConstantsPassed (d : Declared) (began found : Option Refusal) (rest : List Constant) (t : ScopeTables) : Type 0 where
  pub known : List Variable
  pub tells : TellsScope d (constant_scope known) t
  pub split : known ++ map as_variable rest ≡ map as_variable d.constants
  pub same : sites_judged d found (constant_sites known rest) ≡ sites_judged d began (constant_sites [] d.constants)
