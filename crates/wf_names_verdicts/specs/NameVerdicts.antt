-- That the rules of names have an answer, for every package.
use Rattle.std.specs.Prelude.{◌⊎◌, ℕ, ◌<◌, ◌≡◌, true, Bool, List, Option}
use Rattle.wf_text.specs.declared.rules.Refusal.{Refusal}
use Rattle.wf_text.specs.Precedence.{Decides}
use Rattle.graphs.specs.Graphs.{Path}
use Rattle.wf_ast.specs.ParsedTree.{DeclTree}
use Rattle.wf_names_rules.specs.Declarations.{Declared, Variable, declared}
use Rattle.wf_names_rules.specs.NameRules.{Breaks}
use Rattle.wf_names_rules.specs.Sizes.{Take}
use Rattle.wf_names_resolve.specs.Package.{resolved_package}
use Rattle.wf_names_laws.specs.Ordered.{HasOrder}

-- Of all that a package breaks of the rules of names there is a first refusal, or it breaks none of them.
abbrev pub NamesAreDecided : Type 0
NamesAreDecided = (d : Declared) → (found : Option Refusal) × Decides (Breaks d) found

-- In a graph whose steps start at numbers below some number there is a way from one number to another, or there is none.
abbrev pub WaysAreDecided : Type 0
WaysAreDecided = (step : ℕ → ℕ → Bool) (n : ℕ) → ((a b : ℕ) → step a b ≡ true → a < n) → (a b : ℕ) → Path step a b ⊎ (Path step a b → ⊥)

-- Fields take some number of bytes.
abbrev pub FieldsTakeBytes : Type 0
FieldsTakeBytes = (d : Declared) (fields : List Variable) → (n : ℕ) × Take d fields n

-- The methods of a package that breaks no rule of names have an order in which each stands after those that it calls, and
-- its structs one in which each stands after those that its fields hold.
abbrev pub KeptPackagesHaveAnOrder : Type 0
KeptPackagesHaveAnOrder =
    (name : List ℕ) (texts : List (List ℕ)) (decls : List DeclTree) → ((s : Refusal) → Breaks (declared texts decls) s → ⊥)
    → (order : List ℕ) × (struct_order : List ℕ) × HasOrder (resolved_package name texts decls order struct_order)
