-- The names in a typed package: which of them differ.
use Rattle.std.specs.Prelude.{◌≡◌, ℕ, false, List, map, Some, slice_get}
use Rattle.std.specs.List.{AllByRecursion}
use Rattle.wf_text.specs.declared.rules.Refusal.{Refusal}
use Rattle.wf_ast.specs.ParsedParts.{Parsed, AreDistinct}
use Rattle.wf_ast.specs.TypedPackage.{Variable, StructTree, MethodTree, PackageTree}
use Rattle.wf_ast.specs.ReadPackage.{decls_of}
use Rattle.wf_parse.specs.Parsing.{IsParsed}
use Rattle.wf_names_rules.specs.Declarations.{declared}
use Rattle.wf_names_rules.specs.NameRules.{Breaks}
use Rattle.wf_names_rules.specs.Reserved.{is_initialize}
use Rattle.wf_names_resolve.specs.Package.{resolved_package}
use Rattle.wf_typed_tree.specs.ElaboratedPackage.{typed_package}

abbrev pub names_of : List Variable → List (List ℕ)
names_of xs = map (λ x. x.name) xs

-- No two of the structs have one name, nor two fields of a struct, two methods of a struct, two arguments or two locals of a method,
-- and no method is named `initialize`.
pub record HasApartNames (p : PackageTree) : Type 0 where
  pub structs : AreDistinct (map (λ (s : StructTree). s.name) p.structs)
  pub fields : AllByRecursion (λ s. AreDistinct (names_of s.fields)) p.structs
  pub args : AllByRecursion (λ m. AreDistinct (names_of m.args)) p.methods
  pub locals : AllByRecursion (λ m. AreDistinct (names_of m.locals)) p.methods
  pub methods : (i j : ℕ) (m n : MethodTree) → slice_get p.methods i ≡ Some m → slice_get p.methods j ≡ Some n → m.of ≡ n.of → m.name ≡ n.name → i ≡ j
  pub initialize : AllByRecursion (λ m. is_initialize m.name ≡ false) p.methods

-- So it is in the typed package of a package that is read and keeps the rules of names, in whatever order its methods stand.
abbrev pub ReadNamesAreApart : Type 0
ReadNamesAreApart =
    (name : List ℕ) (files : List (List ℕ)) (read : Parsed) → IsParsed name files read → ((refusal : Refusal) → Breaks (declared read.texts (decls_of read)) refusal → ⊥)
    → (order struct_order : List ℕ) → HasApartNames (typed_package (resolved_package read.name read.texts (decls_of read) order struct_order))
