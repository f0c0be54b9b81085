-- Every name of a package that breaks no rule of names means a declaration.
use Rattle.std.proofs.Common.{None}
use Rattle.wf_text.specs.Precedence.{Decides}
use Rattle.wf_ast.specs.ParsedTree as tree
use Rattle.wf_names_rules.specs.Declarations.{Declared}
use Rattle.wf_names_rules.specs.NameRules.{Breaks}
use Rattle.wf_names_rules.specs.Uses as uses
use Rattle.wf_names_rules.specs.Uses.{Scope, Use, Site, sites}
use Rattle.wf_names_laws.specs.Kept.{IsKept, IsKeptSite}
use Rattle.wf_names_laws.proofs.ListLemmas.{all-at}
use Rattle.wf_names_laws.proofs.KeptLaws.{sites-kept}
use Rattle.wf_names_scope_laws.specs.ScopeLaws.{UseMeans, NamesHaveMeanings}
use Rattle.wf_names_scope_laws.proofs.Apart.{IsApart, used-apart}
use Rattle.wf_names_scope_laws.proofs.Callees.{callee-means}
use Rattle.wf_names_scope_laws.proofs.Variables.{path-means, own-status-means, base-status-means, struct-means}

pub use-means : (d : Declared) → Decides (Breaks d) None → (scope : Scope) → IsApart d scope → (usage : Use) → IsKept d scope usage → UseMeans d scope usage
use-means d h scope apart (uses.own_status text) kept = own-status-means d h text.text.0 kept
use-means d h scope apart (uses.base_status text) kept = base-status-means d text.text.0 kept
use-means d h scope apart (uses.variable path) kept = path-means d h scope apart path kept
use-means d h scope apart (uses.structure name) kept = struct-means d h name.text.0 kept
use-means d h scope apart (uses.method (tree.call on name mark args)) kept = callee-means d h scope apart on name.text.0 kept.open_here

pub names-have-meanings : NamesHaveMeanings
names-have-meanings d h scope usage used =
    let site : Site = record { scope = scope; usage = usage } in
    use-means d h scope (used-apart d h scope usage used) usage (all-at (IsKeptSite d) (sites d) used.0 site (sites-kept d h) used.1)
