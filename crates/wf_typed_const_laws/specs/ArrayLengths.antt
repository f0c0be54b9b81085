-- The lengths of the arrays in a typed package.
use Rattle.std.specs.Prelude.{◌≡◌, ℕ, Bool, true, List, nat_le}
use Rattle.std.specs.List.{list_all}
use Rattle.wf_text.specs.declared.rules.Refusal.{Refusal}
use Rattle.wf_ast.specs.ParsedParts.{Parsed}
use Rattle.wf_ast.specs.declared.types.Ty.{Ty}
use Rattle.wf_ast.specs.declared.types.Ty.TheVariants as types
use Rattle.wf_ast.specs.TypedPackage.{PackageTree}
use Rattle.wf_ast.specs.ReadPackage.{decls_of}
use Rattle.wf_parse.specs.Parsing.{IsParsed}
use Rattle.wf_names_rules.specs.Declarations.{declared}
use Rattle.wf_names_rules.specs.NameRules.{Breaks}
use Rattle.wf_names_resolve.specs.Package.{resolved_package}
use Rattle.wf_typed_tree.specs.ElaboratedPackage.{typed_package}
use Rattle.wf_lower_laws.specs.FieldLaw.{HasShortArrays}

-- An array has at most 65,536 elements.
abbrev pub is_bounded : Ty → Bool
is_bounded (types.Array width lo hi count) = nat_le count 65536
is_bounded ty = true

-- So has each array of a field, an argument or a local; each is then short enough for C.
pub record HasBoundedArrays (p : PackageTree) : Type 0 where
  pub fields : list_all (λ s. list_all (λ x. is_bounded x.ty) s.fields) p.structs ≡ true
  pub args : list_all (λ m. list_all (λ x. is_bounded x.ty) m.args) p.methods ≡ true
  pub locals : list_all (λ m. list_all (λ x. is_bounded x.ty) m.locals) p.methods ≡ true
  pub short : HasShortArrays p

-- So it is in the typed package of a package that is read and keeps the rules of names, in whatever order its methods stand.
abbrev pub ReadArraysAreBounded : Type 0
ReadArraysAreBounded =
    (name : List ℕ) (files : List (List ℕ)) (read : Parsed) → IsParsed name files read → ((refusal : Refusal) → Breaks (declared read.texts (decls_of read)) refusal → ⊥)
    → (order struct_order : List ℕ) → HasBoundedArrays (typed_package (resolved_package read.name read.texts (decls_of read) order struct_order))
