-- What the rules promise of the packages that keep them: no action of a host is ever stuck.
use Rattle.std.specs.Prelude.{◌≡◌, ℕ, true, List, None}
use Rattle.std.specs.List.{list_all}
use Rattle.wf_text.specs.HostActions.{Receiver, HostAction}
use Rattle.wf_text.specs.Precedence.{Decides}
use Rattle.wf_base.specs.BaseOps.{Buffer}
use Rattle.wf_base.specs.LawfulActions.{AreDeclared, AreLawful}
use Rattle.wf_ast.specs.ParsedParts.{Parsed}
use Rattle.wf_ast.specs.declared.typed_nodes.TypedNodes.{TypedNodes}
use Rattle.wf_ast.specs.TypedInvariant.{IsTyped}
use Rattle.wf_ast.specs.TypedPackage.{PackageTree, package_of, surface_of}
use Rattle.wf_ast.specs.ReadPackage.{decls_of}
use Rattle.wf_named.specs.Grammar.{package_by_grammar}
use Rattle.wf_parse.specs.Parsing.{IsParsed}
use Rattle.wf_named.specs.NamedParts.{NamedParts, named_package}
use Rattle.wf_named.specs.NamedTree.{NamedPackageTree}
use Rattle.wf_named.specs.WellNamed.{well_named}
use Rattle.wf_names_rules.specs.Declarations.{declared}
use Rattle.wf_names_rules.specs.NameRules as names
use Rattle.wf_names_resolve.specs.Package.{resolved_package}
use Rattle.wf_names_laws.specs.Ordered.{HasOrder}
use Rattle.wf_types_rules.specs.TypeRules as types
use Rattle.wf_typed_tree.specs.ElaboratedPackage.{typed_package}
use Rattle.wf_types.specs.Typing.{IsElaborated}
use Rattle.wf_meaning.specs.SourceCall.{source_run}
use Rattle.wf_bounds_stmts.specs.MethodRules.{local_at, facts_refusal}
use Rattle.wf_bounds_laws.specs.BoundsRules.{bounds_refusal}
use Rattle.wf_sound_runs.specs.Chains.{well_made}
use Rattle.wf_sound_runs.specs.Accepted.{HasShortArrays, IsAccepted, IsDefined}

-- With receivers of its public structs, and whatever a host may do with them, each action within whatever number of turns it
-- is given: none of them is stuck.
abbrev pub IsNeverStuck : PackageTree → Type 0
IsNeverStuck p = (receivers : List Receiver) (actions : List (HostAction Buffer)) → AreDeclared (surface_of p) receivers → AreLawful (surface_of p) receivers 0 0 actions → IsDefined (source_run p receivers actions)

-- A resolved package breaks no rule of names, of types and effects, of bounds.
pub record KeepsRules (p : NamedPackageTree) : Type 0 where
  pub named : well_named p ≡ true
  pub types : Decides (types.Breaks p) None
  pub bounds : bounds_refusal p ≡ None

-- What its typed tree keeps besides the rules of typed packages.
abbrev pub TypedPackagesAreWellMade : Type 0
TypedPackagesAreWellMade =
    (p : NamedPackageTree) → well_named p ≡ true → package_by_grammar p ≡ true → Decides (types.Breaks p) None → list_all (λ m. well_made m.body) (typed_package p).methods ≡ true

abbrev pub TypedArraysAreShort : Type 0
TypedArraysAreShort = (p : NamedPackageTree) → HasShortArrays (typed_package p)

abbrev pub KeptPackagesAreNeverStuck : Type 0
KeptPackagesAreNeverStuck = (p : NamedPackageTree) → package_by_grammar p ≡ true → KeepsRules p → IsNeverStuck (typed_package p)

-- The typed nodes that the phase of types gives of it, where the rules of facts refuse nothing of them.
abbrev pub TypedNodesAreAccepted : Type 0
TypedNodesAreAccepted =
    (named : NamedParts) (typed : TypedNodes) → well_named (named_package named) ≡ true → package_by_grammar (named_package named) ≡ true → IsElaborated named typed → IsTyped typed
    → facts_refusal typed ≡ None → IsAccepted (local_at typed) (package_of typed)

-- A package that is read, with its methods in an order.
abbrev pub ReadPackagesAreNeverStuck : Type 0
ReadPackagesAreNeverStuck =
    (name : List ℕ) (files : List (List ℕ)) (read : Parsed) → IsParsed name files read → Decides (names.Breaks (declared read.texts (decls_of read))) None
    → (order struct_order : List ℕ) → HasOrder (resolved_package read.name read.texts (decls_of read) order struct_order)
    → Decides (types.Breaks (resolved_package read.name read.texts (decls_of read) order struct_order)) None
    → bounds_refusal (resolved_package read.name read.texts (decls_of read) order struct_order) ≡ None
    → IsNeverStuck (typed_package (resolved_package read.name read.texts (decls_of read) order struct_order))
