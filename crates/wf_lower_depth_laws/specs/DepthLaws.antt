-- The laws of depth: what is read opens few brackets inside one another, and so does its text in C.
use Rattle.std.specs.Prelude.{◌≡◌, ℕ, true, List}
use Rattle.std.specs.List.{list_all}
use Rattle.wf_ast.specs.ParsedParts.{Parsed}
use Rattle.wf_ast.specs.ParsedTree.{DeclTree}
use Rattle.wf_ast.specs.TypedPackage.{PackageTree}
use Rattle.wf_ast.specs.ReadPackage.{decls_of}
use Rattle.wf_named.specs.NamedTree.{NamedPackageTree}
use Rattle.wf_named.specs.Grammar.{package_by_grammar}
use Rattle.wf_parse.specs.Parsing.{IsParsed}
use Rattle.wf_names_rules.specs.Declarations.{Declared}
use Rattle.wf_names_resolve.specs.Package.{resolved_by, resolved_package}
use Rattle.wf_typed_tree.specs.ElaboratedPackage.{typed_package}
use Rattle.c_text.specs.CGrammar.{unit_tokens}
use Rattle.c_read_grammar.specs.Outcomes.{IsShallow}
use Rattle.wf_lower.specs.Unit.{lowered_unit}
use Rattle.wf_lower_laws.specs.BracketLaw.{block_within}
use Rattle.wf_lower_depth_laws.specs.WrittenDepth.{decl_opens}
use Rattle.wf_lower_depth_laws.specs.NamedDepth.{package_opens}

-- The methods of a package that is read open at most 48 brackets inside one another.
abbrev pub ReadMethodsOpenFew : Type 0
ReadMethodsOpenFew = (name : List ℕ) (files : List (List ℕ)) (p : Parsed) → IsParsed name files p → list_all decl_opens (decls_of p) ≡ true

-- Resolving doesn't add to them, whatever names stand for.
abbrev pub ResolvingKeepsDepth : Type 0
ResolvingKeepsDepth = (d : Declared) (name : List ℕ) (decls : List DeclTree) (order struct_order : List ℕ) → list_all decl_opens decls ≡ true → package_opens (resolved_by d name decls order struct_order) ≡ true

-- No body has more than so many parts inside one another.
abbrev pub IsWithin : PackageTree → Type 0
IsWithin p = list_all (λ m. block_within 97 m.body) p.methods ≡ true

-- In a typed tree each bracket has at most two parts to itself: an operator and what it works on, a `not` or an element.
abbrev pub TypingKeepsDepth : Type 0
TypingKeepsDepth = (p : NamedPackageTree) → package_by_grammar p ≡ true → package_opens p ≡ true → IsWithin (typed_package p)

-- So it is in the typed package of a package that is read, in whatever order its methods stand.
abbrev pub ReadPackagesAreWithin : Type 0
ReadPackagesAreWithin = (name : List ℕ) (files : List (List ℕ)) (read : Parsed) → IsParsed name files read → (order struct_order : List ℕ) → IsWithin (typed_package (resolved_package read.name read.texts (decls_of read) order struct_order))

-- And its text opens no bracket where 512 are open.
abbrev pub ReadTextsAreShallow : Type 0
ReadTextsAreShallow =
    (name : List ℕ) (files : List (List ℕ)) (read : Parsed) → IsParsed name files read → (order struct_order : List ℕ) (p : PackageTree)
    → p ≡ typed_package (resolved_package read.name read.texts (decls_of read) order struct_order) → IsShallow 0 (unit_tokens (lowered_unit p))
