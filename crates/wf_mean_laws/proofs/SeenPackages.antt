-- A package that keeps the rules of names, of types and of facts shows its source.
use Rattle.std.proofs.Common.{◌≡◌, ℕ, List, [], Some, sym, ap, subst}
use Rattle.std.specs.Prelude.{slice_get}
use Rattle.wf_ast.specs.TypedPackage.{PackageTree, package_of}
use Rattle.wf_ast.specs.ReadPackage.{decls_of}
use Rattle.wf_named.specs.NamedParts.{named_package}
use Rattle.wf_named.specs.NamedTree.{NamedPackageTree}
use Rattle.wf_names_laws.proofs.PackageLaws.{package-named}
use Rattle.wf_names_resolve.specs.Package.{resolved_package}
use Rattle.wf_typed_tree.specs.ElaboratedPackage.{typed_package}
use Rattle.wf_typed_tree.proofs.Agreement.{typed-statuses}
use Rattle.wf_read_laws.proofs.ReadPackages.{packages_resolve_by_grammar}
use Rattle.wf_bounds_stmts.specs.MethodRules.{local_at}
use Rattle.wf_bounds_laws.specs.BoundsRules.{name_of_local}
use Rattle.wf_sound_laws.proofs.SoundPackages.{nodes-accepted, package-accepted}
use Rattle.wf_mean_laws.specs.SourceSeen.{KeptPackagesAreSeen, ReadPackagesAreSeen, TypedNodesAreSeen}
use Rattle.wf_mean_laws.proofs.SeenRuns.{accepted-seen}

-- The first status of a typed tree is ok.
ok-first : (p : NamedPackageTree) → slice_get (typed_package p).statuses 0 ≡ Some []
ok-first p = ap (λ (xs : List (List ℕ)). slice_get xs 0) (typed-statuses p)

pub kept-seen : KeptPackagesAreSeen
kept-seen p grammar keeps = accepted-seen (name_of_local p) (typed_package p) (package-accepted p grammar keeps) (ok-first p)

pub nodes-seen : TypedNodesAreSeen
nodes-seen named typed well grammar is kept none =
    let P : PackageTree → Type 0 = λ q. slice_get q.statuses 0 ≡ Some [] in
    accepted-seen (local_at typed) (package_of typed) (nodes-accepted named typed well grammar is kept none) (subst P (sym is.tree) (ok-first (named_package named)))

pub read-seen : ReadPackagesAreSeen
read-seen name files read parsed names order struct_order ordered types bounds =
    let p : NamedPackageTree = resolved_package read.name read.texts (decls_of read) order struct_order in
    let named = package-named read.name read.texts (decls_of read) order struct_order names ordered in
    kept-seen p (packages_resolve_by_grammar name files read parsed order struct_order) (record { named = named; types = types; bounds = bounds })
