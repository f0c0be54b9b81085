-- The unit form of the text of every accepted package.
use Rattle.std.specs.Prelude.{◌≡◌, ℕ, false, List, None, bytes_eq, codes}
use Rattle.wf_text.specs.Precedence.{Decides}
use Rattle.wf_text.specs.declared.rules.Refusal.{Refusal}
use Rattle.wf_ast.specs.ParsedParts.{Parsed}
use Rattle.wf_ast.specs.declared.typed_nodes.TypedNodes.{TypedNodes}
use Rattle.wf_ast.specs.TypedInvariant.{IsTyped}
use Rattle.wf_ast.specs.TypedPackage.{package_of, surface_of}
use Rattle.wf_ast.specs.ReadPackage.{decls_of}
use Rattle.wf_points.specs.PointNumbers.{HasTooMany}
use Rattle.wf_parse.specs.Parsing.{IsParsed}
use Rattle.wf_names_rules.specs.Declarations.{declared}
use Rattle.wf_names_rules.specs.NameRules.{Breaks}
use Rattle.wf_names_resolve.specs.Package.{resolved_package}
use Rattle.wf_typed_tree.specs.ElaboratedPackage.{typed_package}
use Rattle.c_meaning.specs.UnitForm.{HasUnitForm}
use Rattle.wf_lower.specs.Unit.{lowered_unit}
use Rattle.wf_lower_laws.specs.FieldLaw.{HasShortArrays}
use Rattle.wf_lower_formed_laws.specs.NamesKept.{IsNamed}

-- A typed package without too many points, whose names are plain and differ, and whose arrays are short: its text has the unit form
-- for the package's surface.
abbrev pub AcceptedTextsAreFormed : Type 0
AcceptedTextsAreFormed =
    (nodes : TypedNodes) → IsTyped nodes → Decides (HasTooMany (package_of nodes)) None → IsNamed (package_of nodes) → HasShortArrays (package_of nodes)
    → HasUnitForm (surface_of (package_of nodes)) (lowered_unit (package_of nodes))

-- So it is for the typed package of a package that is read and keeps the rules of names, in whatever order its methods stand.
abbrev pub ReadTextsAreFormed : Type 0
ReadTextsAreFormed =
    (name : List ℕ) (files : List (List ℕ)) (read : Parsed) → IsParsed name files read → ((refusal : Refusal) → Breaks (declared read.texts (decls_of read)) refusal → ⊥) → bytes_eq name (codes "base") ≡ false
    → (order struct_order : List ℕ) (nodes : TypedNodes) → package_of nodes ≡ typed_package (resolved_package read.name read.texts (decls_of read) order struct_order) → IsTyped nodes → Decides (HasTooMany (package_of nodes)) None
    → HasUnitForm (surface_of (package_of nodes)) (lowered_unit (package_of nodes))
