-- The numbers of a resolved package are those of the declarations that its names mean.
use Rattle.std.specs.Prelude.{None}
use Rattle.wf_text.specs.Precedence.{Decides}
use Rattle.wf_ast.specs.ParsedTree as tree
use Rattle.wf_names_rules.specs.Declarations.{Declared, text_of}
use Rattle.wf_names_rules.specs.NameRules.{Breaks, IsUsed}
use Rattle.wf_names_rules.specs.Uses as uses
use Rattle.wf_names_rules.specs.Uses.{Scope}
use Rattle.wf_names_resolve.specs.Standing.{standing_at}
use Rattle.wf_names_resolve.specs.Resolved.{number_or, base_status_number, resolved_path, callee_at}
use Rattle.wf_names_scope_laws.specs.Scoping.{CalleeMeans, PathMeans, OwnStatusMeans, BaseStatusMeans, StructMeans}

-- This holds wherever a package that breaks no rule of names uses a name.
abbrev pub WhereNamesAreUsed : (Declared → Scope → uses.Use → Type 0) → Type 0
WhereNamesAreUsed Holds = (d : Declared) → Decides (Breaks d) None → (scope : Scope) (usage : uses.Use) → IsUsed d scope usage → Holds d scope usage

-- What resolving puts for a name is what the name means there.
abbrev pub UseMeans : Declared → Scope → uses.Use → Type 0
UseMeans d scope (uses.variable path) = PathMeans d scope path (resolved_path (standing_at d scope) path)
UseMeans d scope (uses.own_status text) = OwnStatusMeans d text.text.0 (number_or ((standing_at d scope).status text.text.0))
UseMeans d scope (uses.base_status text) = BaseStatusMeans d text.text.0 (base_status_number (text_of d text.text.0))
UseMeans d scope (uses.structure name) = StructMeans d name.text.0 (number_or ((standing_at d scope).structure name.text.0))
UseMeans d scope (uses.method (tree.call on name mark args)) =
    CalleeMeans d scope on name.text.0 (callee_at (standing_at d scope) on ((standing_at d scope).callee on name.text.0))

abbrev pub NamesHaveMeanings : Type 0
NamesHaveMeanings = WhereNamesAreUsed UseMeans
