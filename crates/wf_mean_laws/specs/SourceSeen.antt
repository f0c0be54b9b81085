-- What is seen of the engine of a package, whatever a host may do with it: what its source means.
use Rattle.std.specs.Prelude.{◌≡◌, ℕ, true, List, [], None, Some, slice_get}
use Rattle.wf_text.specs.declared.place.Place.{Place}
use Rattle.wf_text.specs.HostActions.{Receiver, HostAction}
use Rattle.wf_text.specs.Precedence.{Decides}
use Rattle.wf_text.specs.Seen.{Seen}
use Rattle.wf_base.specs.BaseOps.{Buffer}
use Rattle.wf_base.specs.HostRun.{empty_host, run}
use Rattle.wf_base.specs.LawfulActions.{AreDeclared, AreLawful}
use Rattle.wf_bufs.specs.EngineLaw.{steps_of}
use Rattle.wf_ast.specs.ParsedParts.{Parsed}
use Rattle.wf_ast.specs.declared.typed_nodes.TypedNodes.{TypedNodes}
use Rattle.wf_ast.specs.TypedInvariant.{IsTyped}
use Rattle.wf_ast.specs.TypedPackage.{PackageTree, package_of, surface_of}
use Rattle.wf_ast.specs.ReadPackage.{decls_of}
use Rattle.wf_named.specs.Grammar.{package_by_grammar}
use Rattle.wf_parse.specs.Parsing.{IsParsed}
use Rattle.wf_named.specs.NamedParts.{NamedParts, named_package}
use Rattle.wf_named.specs.NamedTree.{NamedPackageTree}
use Rattle.wf_named.specs.WellNamed.{well_named}
use Rattle.wf_names_rules.specs.Declarations.{declared}
use Rattle.wf_names_rules.specs.NameRules as names
use Rattle.wf_names_resolve.specs.Package.{resolved_package}
use Rattle.wf_names_laws.specs.Ordered.{HasOrder}
use Rattle.wf_types_rules.specs.TypeRules as types
use Rattle.wf_typed_tree.specs.ElaboratedPackage.{typed_package}
use Rattle.wf_types.specs.Typing.{IsElaborated}
use Rattle.wf_meaning.specs.SourceCall.{source_run}
use Rattle.wf_mean.specs.SourceEngines.{call_gives, first_state, init_gives, surface_told}
use Rattle.wf_bounds_stmts.specs.MethodRules.{facts_refusal}
use Rattle.wf_bounds_laws.specs.BoundsRules.{bounds_refusal}
use Rattle.wf_sound_runs.specs.Accepted.{IsAccepted, IsDefined}
use Rattle.wf_sound_laws.specs.SoundLaws.{KeepsRules}

-- What is seen of the engine of a package, from where it has been loaded: each receiver is raw or null.
abbrev pub engine_run : PackageTree → List Receiver → List (HostAction Buffer) → List Seen
engine_run p receivers actions = run (steps_of surface_told init_gives call_gives) (first_state p receivers) empty_host actions

-- It is what is seen of the source, and no reply is undefined.
pub record SourceIsSeen (p : PackageTree) (receivers : List Receiver) (actions : List (HostAction Buffer)) : Type 0 where
  pub same : engine_run p receivers actions ≡ source_run p receivers actions
  pub defined : IsDefined (engine_run p receivers actions)

-- So it is with receivers of the package's public structs, and whatever a host may do with them, each action within whatever
-- number of turns it is given.
abbrev pub ShowsItsSource : PackageTree → Type 0
ShowsItsSource p = (receivers : List Receiver) (actions : List (HostAction Buffer)) → AreDeclared (surface_of p) receivers → AreLawful (surface_of p) receivers 0 0 actions → SourceIsSeen p receivers actions

-- An accepted package whose first status is ok, with the empty text.
abbrev pub AcceptedPackagesAreSeen : Type 0
AcceptedPackagesAreSeen = (places : ℕ → ℕ → Place) (p : PackageTree) → IsAccepted places p → slice_get p.statuses 0 ≡ Some [] → ShowsItsSource p

-- The typed nodes that the phase of types gives of a resolved package of the grammar, where the rules of facts refuse nothing of
-- them.
abbrev pub TypedNodesAreSeen : Type 0
TypedNodesAreSeen =
    (named : NamedParts) (typed : TypedNodes) → well_named (named_package named) ≡ true → package_by_grammar (named_package named) ≡ true → IsElaborated named typed → IsTyped typed
    → facts_refusal typed ≡ None → ShowsItsSource (package_of typed)

-- The typed tree of a resolved package of the grammar that breaks no rule of names, of types and of bounds.
abbrev pub KeptPackagesAreSeen : Type 0
KeptPackagesAreSeen = (p : NamedPackageTree) → package_by_grammar p ≡ true → KeepsRules p → ShowsItsSource (typed_package p)

-- A package that is read, with its methods in an order.
abbrev pub ReadPackagesAreSeen : Type 0
ReadPackagesAreSeen =
    (name : List ℕ) (files : List (List ℕ)) (read : Parsed) → IsParsed name files read → Decides (names.Breaks (declared read.texts (decls_of read))) None
    → (order struct_order : List ℕ) → HasOrder (resolved_package read.name read.texts (decls_of read) order struct_order)
    → Decides (types.Breaks (resolved_package read.name read.texts (decls_of read) order struct_order)) None
    → bounds_refusal (resolved_package read.name read.texts (decls_of read) order struct_order) ≡ None
    → ShowsItsSource (typed_package (resolved_package read.name read.texts (decls_of read) order struct_order))
