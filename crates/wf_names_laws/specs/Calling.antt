-- Packages each of whose calls is of a method that may be called there.
use Rattle.std.specs.Prelude.{◌≡◌, true}
use Rattle.wf_ast.specs.ParsedTree.{CallTree}
use Rattle.wf_names_rules.specs.Declarations.{Declared}
use Rattle.wf_names_rules.specs.Uses.{Scope, method}
use Rattle.wf_names_rules.specs.Meanings.{known_at, callee_of}
use Rattle.wf_names_rules.specs.NameRules.{IsUsed}
use Rattle.wf_names_uses.specs.Fitting.{is_open}

abbrev pub AreOpen : Declared → Type 0
AreOpen d = (scope : Scope) (c : CallTree) → IsUsed d scope (method c) → is_open (callee_of (known_at d scope) c) ≡ true
