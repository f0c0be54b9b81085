-- Packages that break no rule of names, with their resolved trees.
use Rattle.std.specs.Prelude.{ℕ, List, None}
use Rattle.wf_text.specs.Precedence.{Decides}
use Rattle.wf_ast.specs.ParsedTree.{DeclTree}
use Rattle.wf_named.specs.NamedTree.{NamedPackageTree}
use Rattle.wf_names_rules.specs.Declarations.{Declared, declared}
use Rattle.wf_names_rules.specs.NameRules.{Breaks}
use Rattle.wf_names_resolve.specs.Package.{resolved_package}

-- This holds of what every package declares that breaks no rule, and of its resolved tree, whatever its name is and
-- whatever orders its methods and its structs have.
abbrev pub WhereNoRuleIsBroken : (Declared → NamedPackageTree → Type 0) → Type 0
WhereNoRuleIsBroken Holds = (name : List ℕ) (texts : List (List ℕ)) (decls : List DeclTree) (order struct_order : List ℕ) → Decides (Breaks (declared texts decls)) None
    → Holds (declared texts decls) (resolved_package name texts decls order struct_order)
