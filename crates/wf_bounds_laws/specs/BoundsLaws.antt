-- The laws of what the rules of bounds and of points refuse of a package.
use Rattle.std.specs.Prelude.{◌≡◌, ◌<◌, ℕ, List, length, Option, Some}
use Rattle.wf_text.specs.declared.place.Place.{Place}
use Rattle.wf_text.specs.declared.rules.Refusal.{Refusal}
use Rattle.wf_text.specs.Precedence.{Decides}
use Rattle.wf_ast.specs.declared.typed_nodes.TypedNodes.{TypedNodes}
use Rattle.wf_ast.specs.ParsedParts.{Parsed}
use Rattle.wf_ast.specs.TypedPackage.{package_of}
use Rattle.wf_ast.specs.ReadPackage.{decls_of}
use Rattle.wf_parse.specs.Parsing.{IsParsed}
use Rattle.wf_named.specs.NamedParts.{NamedParts, named_package}
use Rattle.wf_named.specs.NamedTree.{NamedPackageTree}
use Rattle.wf_names_resolve.specs.Package.{resolved_package}
use Rattle.wf_typed_tree.specs.ElaboratedPackage.{typed_package}
use Rattle.wf_types.specs.Typing.{IsElaborated}
use Rattle.wf_points.specs.PointNumbers.{HasTooMany}
use Rattle.wf_bounds_stmts.specs.MethodRules.{facts_refusal}
use Rattle.wf_read_laws.specs.NamedPlaces.{PackageIsIn}
use Rattle.wf_bounds_laws.specs.BoundsRules.{bounds_refusal, BreaksPoints}
use Rattle.wf_bounds_laws.specs.TypedPlaces.{BodiesAreIn}

-- What is refused of the nodes that typing makes of a package is what is refused of the package.
abbrev pub TypingKeepsBounds : Type 0
TypingKeepsBounds = (named : NamedParts) (typed : TypedNodes) → IsElaborated named typed → facts_refusal typed ≡ bounds_refusal (named_package named)

abbrev pub TypingKeepsPoints : Type 0
TypingKeepsPoints =
    (named : NamedParts) (typed : TypedNodes) → IsElaborated named typed
    → (found : Option Refusal) → Decides (HasTooMany (package_of typed)) found → Decides (BreaksPoints (named_package named)) found

-- In which orders a package tells its methods and its structs makes no difference.
abbrev pub BoundsIgnoreOrder : Type 0
BoundsIgnoreOrder = (p : NamedPackageTree) (order struct_order : List ℕ) → bounds_refusal (record p { order = order; struct_order = struct_order }) ≡ bounds_refusal p

abbrev pub PointsIgnoreOrder : Type 0
PointsIgnoreOrder = (p : NamedPackageTree) (order struct_order : List ℕ) (r : Refusal) → BreaksPoints (record p { order = order; struct_order = struct_order }) r → BreaksPoints p r

-- A place in one of so many files.
abbrev pub IsInFiles : (count : ℕ) → Place → Type 0
IsInFiles count at = at.file < count

-- The typed bodies of a package stand in the files in which it stands.
abbrev pub TypingKeepsFiles : Type 0
TypingKeepsFiles = (count : ℕ) (p : NamedPackageTree) → PackageIsIn (IsInFiles count) p → BodiesAreIn (IsInFiles count) (typed_package p)

-- And so does what is refused of it.
abbrev pub BoundsHaveFiles : Type 0
BoundsHaveFiles = (count : ℕ) (p : NamedPackageTree) → PackageIsIn (IsInFiles count) p → (r : Refusal) → bounds_refusal p ≡ Some r → r.at.file < count

abbrev pub PointsHaveFiles : Type 0
PointsHaveFiles = (count : ℕ) (p : NamedPackageTree) → PackageIsIn (IsInFiles count) p → (r : Refusal) → BreaksPoints p r → r.at.file < count

-- What is refused of a package that is read stands in one of its files.
abbrev pub ReadBoundsHaveFiles : Type 0
ReadBoundsHaveFiles =
    (name : List ℕ) (files : List (List ℕ)) (p : Parsed) → IsParsed name files p
    → (order struct_order : List ℕ) (r : Refusal) → bounds_refusal (resolved_package p.name p.texts (decls_of p) order struct_order) ≡ Some r → r.at.file < length files

abbrev pub ReadPointsHaveFiles : Type 0
ReadPointsHaveFiles =
    (name : List ℕ) (files : List (List ℕ)) (p : Parsed) → IsParsed name files p
    → (order struct_order : List ℕ) (r : Refusal) → BreaksPoints (resolved_package p.name p.texts (decls_of p) order struct_order) r → r.at.file < length files

-- Of the methods with too many points there is a first refusal, or no method has too many.
abbrev pub PointsAreDecided : Type 0
PointsAreDecided = (p : NamedPackageTree) → (found : Option Refusal) × Decides (BreaksPoints p) found
