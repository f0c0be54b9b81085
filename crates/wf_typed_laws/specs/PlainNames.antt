-- The names in a typed package: how they are spelt.
use Rattle.std.specs.Prelude.{◌≡◌, ℕ, false, List}
use Rattle.std.specs.List.{AllByRecursion}
use Rattle.wf_text.specs.declared.rules.Refusal.{Refusal}
use Rattle.wf_ast.specs.ParsedParts.{Parsed}
use Rattle.wf_ast.specs.TypedInvariant.{IsTyped}
use Rattle.wf_ast.specs.TypedPackage.{Variable, StructTree, MethodTree, PackageTree, package_of}
use Rattle.wf_ast.specs.declared.typed_nodes.TypedNodes.{TypedNodes}
use Rattle.wf_tokens.specs.Pieces.{IsName}
use Rattle.wf_ast.specs.ReadPackage.{decls_of}
use Rattle.wf_parse.specs.Parsing.{IsParsed}
use Rattle.wf_names_rules.specs.Declarations.{declared}
use Rattle.wf_names_rules.specs.NameRules.{Breaks}
use Rattle.wf_names_rules.specs.Reserved.{is_reserved}
use Rattle.wf_names_resolve.specs.Package.{resolved_package}
use Rattle.wf_typed_tree.specs.ElaboratedPackage.{typed_package}
use Rattle.wf_surfaces.specs.Names.{HasNames}

-- A name under which something may be declared: a letter, and then letters, digits and underscores, of which none stands at the
-- end and no two in a row; no word of the language, and none that it keeps.
pub record IsPlain (text : List ℕ) : Type 0 where
  pub spelt : IsName text
  pub free : is_reserved text ≡ false

abbrev pub ArePlain : List Variable → Type 0
ArePlain xs = AllByRecursion (λ x. IsPlain x.name) xs

pub record HasPlainFields (s : StructTree) : Type 0 where
  pub name : IsPlain s.name
  pub fields : ArePlain s.fields

pub record HasPlainVariables (m : MethodTree) : Type 0 where
  pub name : IsPlain m.name
  pub args : ArePlain m.args
  pub locals : ArePlain m.locals

-- The names of structs and of their fields, and of methods, of their arguments and of their locals.
pub record HasPlainNames (p : PackageTree) : Type 0 where
  pub structs : AllByRecursion HasPlainFields p.structs
  pub methods : AllByRecursion HasPlainVariables p.methods

-- All are plain in the typed package of a package that is read and keeps the rules of names, in whatever order its methods stand.
abbrev pub ReadNamesArePlain : Type 0
ReadNamesArePlain =
    (name : List ℕ) (files : List (List ℕ)) (read : Parsed) → IsParsed name files read → ((refusal : Refusal) → Breaks (declared read.texts (decls_of read)) refusal → ⊥)
    → (order struct_order : List ℕ) → HasPlainNames (typed_package (resolved_package read.name read.texts (decls_of read) order struct_order))

-- Where they are plain, the nodes of the package have texts under the numbers of their names.
abbrev pub NodesHaveNames : Type 0
NodesHaveNames = (nodes : TypedNodes) → IsTyped nodes → HasPlainNames (package_of nodes) → HasNames nodes
