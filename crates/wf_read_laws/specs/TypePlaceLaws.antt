-- The laws of places of resolved packages: resolving keeps them, and in which files a package breaks the rules of types
-- and effects.
use Rattle.std.specs.Prelude.{◌≡◌, ◌<◌, ℕ, Bool, true, List, length}
use Rattle.std.specs.List.{AllByRecursion}
use Rattle.wf_text.specs.declared.place.Place.{Place}
use Rattle.wf_text.specs.declared.rules.Refusal.{Refusal}
use Rattle.wf_ast.specs.ParsedParts.{Parsed}
use Rattle.wf_ast.specs.ParsedTree.{DeclTree}
use Rattle.wf_ast.specs.ReadPackage.{decls_of}
use Rattle.wf_parse.specs.OneReading.{IsOfFiles}
use Rattle.wf_parse.specs.Parsing.{IsParsed}
use Rattle.wf_named.specs.NamedTree.{NamedPackageTree}
use Rattle.wf_names_resolve.specs.Package.{resolved_package}
use Rattle.wf_read_laws.specs.Places.{DeclIsIn}
use Rattle.wf_types_rules.specs.TypeRules.{Breaks}
use Rattle.wf_read_laws.specs.NamedPlaces.{PackageIsIn}

-- A region is told by a test of places.
abbrev pub Where : (Place → Bool) → Place → Type 0
Where test at = test at ≡ true

-- Declarations all of whose names and places lie in a region are resolved to a package that lies there, in whatever
-- order its methods stand.
abbrev pub ResolvingKeepsPlaces : Type 0
ResolvingKeepsPlaces =
    (test : Place → Bool) (name : List ℕ) (texts : List (List ℕ)) (decls : List DeclTree) (order struct_order : List ℕ)
    → AllByRecursion (DeclIsIn (Where test)) decls → PackageIsIn (Where test) (resolved_package name texts decls order struct_order)

-- What a package in a region breaks of the rules of types and effects stands there.
abbrev pub RulesStandInPackages : Type 0
RulesStandInPackages = (test : Place → Bool) (p : NamedPackageTree) → PackageIsIn (Where test) p → (s : Refusal) → Breaks p s → Where test s.at

-- What declarations of so many files break of these rules, resolved, stands in one of these files.
abbrev pub BreaksHaveFiles : Type 0
BreaksHaveFiles =
    (count : ℕ) (name : List ℕ) (texts : List (List ℕ)) (decls : List DeclTree) (order struct_order : List ℕ)
    → AllByRecursion (IsOfFiles count) decls → (s : Refusal) → Breaks (resolved_package name texts decls order struct_order) s → s.at.file < count

-- And so does what a package breaks that is read from files and resolved.
abbrev pub PackagesBreakInFiles : Type 0
PackagesBreakInFiles =
    (name : List ℕ) (files : List (List ℕ)) (p : Parsed) → IsParsed name files p
    → (order struct_order : List ℕ) (s : Refusal) → Breaks (resolved_package p.name p.texts (decls_of p) order struct_order) s → s.at.file < length files
