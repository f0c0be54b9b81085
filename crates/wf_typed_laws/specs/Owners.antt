-- The structs of a typed package's methods.
use Rattle.std.specs.Prelude.{◌<◌, ℕ, List, length}
use Rattle.std.specs.List.{AllByRecursion}
use Rattle.wf_text.specs.declared.rules.Refusal.{Refusal}
use Rattle.wf_ast.specs.ParsedParts.{Parsed}
use Rattle.wf_ast.specs.TypedPackage.{MethodTree, PackageTree}
use Rattle.wf_ast.specs.ReadPackage.{decls_of}
use Rattle.wf_parse.specs.Parsing.{IsParsed}
use Rattle.wf_names_rules.specs.Declarations.{declared}
use Rattle.wf_names_rules.specs.NameRules.{Breaks}
use Rattle.wf_names_resolve.specs.Package.{resolved_package}
use Rattle.wf_typed_tree.specs.ElaboratedPackage.{typed_package}

-- The struct of each method is one of the package.
abbrev pub HasOwners : PackageTree → Type 0
HasOwners p = AllByRecursion (λ (m : MethodTree). m.of < length p.structs) p.methods

-- So it is in the typed package of a package that is read and keeps the rules of names, in whatever order its methods stand.
abbrev pub ReadMethodsHaveOwners : Type 0
ReadMethodsHaveOwners =
    (name : List ℕ) (files : List (List ℕ)) (read : Parsed) → IsParsed name files read → ((refusal : Refusal) → Breaks (declared read.texts (decls_of read)) refusal → ⊥)
    → (order struct_order : List ℕ) → HasOwners (typed_package (resolved_package read.name read.texts (decls_of read) order struct_order))
