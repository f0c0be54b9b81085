-- What is known at a place of a resolved package, beside what is known at that place of the package itself.
use Rattle.std.specs.Prelude.{◌≡◌, ℕ, List, Option, Some, length, slice_get}
use Rattle.wf_named.specs.declared.nodes.Variable.TheVariants as variables
use Rattle.wf_named.specs.NamedTree.{NamedTypeTree, NamedMethodTree}
use Rattle.wf_named.specs.WellNamed.{NamedScope as NamedScope, type_of_variable}
use Rattle.wf_names_rules.specs.Declarations.{Variable, Method, Declared, struct_named}
use Rattle.wf_names_rules.specs.Uses.{Scope}
use Rattle.wf_names_rules.specs.Meanings.{fields_known, args_in}
use Rattle.wf_names_resolve.specs.Resolved.{number_or, resolved_type}
use Rattle.wf_names_resolve.specs.Standing.{standing_at}

-- By number these are the types of the variables, each resolved at some place of the package.
abbrev pub HasTypesOf : Declared → List Variable → (ℕ → Option NamedTypeTree) → Type 0
HasTypesOf d of_these type_of = (n : ℕ) (v : Variable) → slice_get of_these n ≡ Some v → (there : Scope) × (type_of n ≡ Some (resolved_type (standing_at d there) v.of))

-- A method with the number of its struct, and with each of its arguments once.
pub record IsMethodOf (d : Declared) (m : Method) (resolved : NamedMethodTree) : Type 0 where
  pub public : resolved.public ≡ m.public
  pub of : resolved.of ≡ number_or (struct_named d m.owner.text.0)
  pub args : length resolved.args ≡ length (args_in (Some m))

pub record HasMethod (d : Declared) (m : Method) (found : Option NamedMethodTree) : Type 0 where
  pub resolved : NamedMethodTree
  pub is : found ≡ Some resolved
  pub of : IsMethodOf d m resolved

-- Everything that is known in the scope of the package has its number in the resolved one.
pub record IsScopeOf (d : Declared) (scope : Scope) (s : NamedScope) : Type 0 where
  pub constants : HasTypesOf d scope.constants (λ n. type_of_variable s (variables.Const (record { 0 = n })))
  pub locals : HasTypesOf d scope.locals (λ n. type_of_variable s (variables.Local (record { 0 = n })))
  pub fields : HasTypesOf d (fields_known d scope.this) (λ n. type_of_variable s (variables.Field (record { 0 = n })))
  pub args : HasTypesOf d scope.args (λ n. type_of_variable s (variables.Arg (record { 0 = n })))
  pub statuses : length s.within.statuses ≡ length d.statuses
  pub structs : length s.within.structs ≡ length d.structs
  pub owner : (name : ℕ) → scope.this ≡ Some name → s.of ≡ Some (number_or (struct_named d name))
  pub methods : (n : ℕ) (m : Method) → slice_get d.methods n ≡ Some m → HasMethod d m (slice_get s.within.methods n)
