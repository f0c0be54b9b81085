-- How many methods a typed package has.
use Rattle.std.specs.Prelude.{◌≤◌, ℕ, List, length}
use Rattle.wf_text.specs.declared.rules.Refusal.{Refusal}
use Rattle.wf_ast.specs.ParsedParts.{Parsed}
use Rattle.wf_ast.specs.TypedPackage.{PackageTree}
use Rattle.wf_ast.specs.ReadPackage.{decls_of}
use Rattle.wf_parse.specs.Parsing.{IsParsed}
use Rattle.wf_names_rules.specs.Declarations.{declared}
use Rattle.wf_names_rules.specs.NameRules.{Breaks}
use Rattle.wf_names_resolve.specs.Package.{resolved_package}
use Rattle.wf_typed_tree.specs.ElaboratedPackage.{typed_package}

abbrev pub HasFewMethods : PackageTree → Type 0
HasFewMethods p = length p.methods ≤ 1024

-- So it is with the typed package of a package that is read and keeps the rules of names, in whatever order its methods stand.
abbrev pub ReadMethodsAreFew : Type 0
ReadMethodsAreFew =
    (name : List ℕ) (files : List (List ℕ)) (read : Parsed) → IsParsed name files read → ((refusal : Refusal) → Breaks (declared read.texts (decls_of read)) refusal → ⊥)
    → (order struct_order : List ℕ) → HasFewMethods (typed_package (resolved_package read.name read.texts (decls_of read) order struct_order))
