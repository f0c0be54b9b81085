-- A package that keeps the rules of names, of types and of facts is accepted, and so it is never stuck.
use Rattle.std.proofs.Common.{◌≡◌, true, Option, Some, None, refl, sym, subst}
use Rattle.wf_text.specs.declared.rules.Refusal.{Refusal}
use Rattle.wf_text.specs.Precedence.{Decides}
use Rattle.std.specs.List.{list_all}
use Rattle.wf_ast.specs.TypedPackage.{PackageTree}
use Rattle.wf_ast.specs.ReadPackage.{decls_of}
use Rattle.wf_named.specs.NamedParts.{named_package}
use Rattle.wf_named.specs.NamedTree.{NamedPackageTree}
use Rattle.wf_named.specs.Grammar.{package_by_grammar}
use Rattle.wf_names_laws.proofs.PackageLaws.{package-named}
use Rattle.wf_names_resolve.specs.Package.{resolved_package}
use Rattle.wf_types_rules.specs.TypeRules.{Breaks}
use Rattle.wf_types_rules.specs.FirstBreak.{deciding}
use Rattle.wf_types_rules.proofs.FirstBreakLaws.{deciding-decides}
use Rattle.wf_typed_tree.specs.ElaboratedPackage.{typed_package}
use Rattle.wf_typed_tree.proofs.BlockLaws.{package-keeps}
use Rattle.wf_read_laws.proofs.ReadPackages.{packages_resolve_by_grammar}
use Rattle.wf_bounds_laws.specs.BoundsRules.{name_of_local, bounds_refusal}
use Rattle.wf_sound_runs.specs.Chains.{well_made}
use Rattle.wf_sound_runs.specs.Accepted.{HasShortArrays, IsAccepted}
use Rattle.wf_sound_runs.proofs.Receivers.{accepted-nodes}
use Rattle.wf_sound_runs.proofs.Runs.{never-stuck}
use Rattle.wf_sound_laws.specs.SoundLaws.{KeepsRules, TypedPackagesAreWellMade, KeptPackagesAreNeverStuck, TypedNodesAreAccepted, ReadPackagesAreNeverStuck}
use Rattle.wf_sound_laws.proofs.ShortArrays.{arrays-short}
use Rattle.wf_sound_laws.proofs.WellMade.{package-made}

-- Where no rule of types is broken none decides.
nothing-decides : (p : NamedPackageTree) → Decides (Breaks p) None → deciding p ≡ None
nothing-decides p kept = by_refusal (deciding p) refl
  where
    by_refusal : (o : Option Refusal) → deciding p ≡ o → o ≡ None
    by_refusal None e = refl
    by_refusal (Some refusal) e =
        let D : Option Refusal → Type 0 = Decides (Breaks p) in
        absurd (kept refusal (subst D e (deciding-decides p)).breaks)

pub typed-made : TypedPackagesAreWellMade
typed-made p named grammar kept = package-made p (nothing-decides p kept) named grammar

pub package-accepted : (p : NamedPackageTree) → package_by_grammar p ≡ true → KeepsRules p → IsAccepted (name_of_local p) (typed_package p)
unfolding bounds_refusal
package-accepted p grammar keeps = record {
  typed = package-keeps p (nothing-decides p keeps.types) keeps.named grammar;
  made = typed-made p keeps.named grammar keeps.types;
  short = arrays-short p;
  facts = keeps.bounds;
}

pub kept-never-stuck : KeptPackagesAreNeverStuck
kept-never-stuck p grammar keeps receivers actions declared lawful = never-stuck (name_of_local p) (typed_package p) (package-accepted p grammar keeps) receivers actions declared lawful

pub nodes-accepted : TypedNodesAreAccepted
nodes-accepted named typed well grammar is kept none =
    let M : PackageTree → Type 0 = λ q. list_all (λ m. well_made m.body) q.methods ≡ true in
    let S : PackageTree → Type 0 = HasShortArrays in
    accepted-nodes typed kept none (subst M (sym is.tree) (typed-made (named_package named) well grammar is.kept)) (subst S (sym is.tree) (arrays-short (named_package named)))

pub read-never-stuck : ReadPackagesAreNeverStuck
read-never-stuck name files read parsed names order struct_order ordered types bounds =
    let p : NamedPackageTree = resolved_package read.name read.texts (decls_of read) order struct_order in
    let named = package-named read.name read.texts (decls_of read) order struct_order names ordered in
    kept-never-stuck p (packages_resolve_by_grammar name files read parsed order struct_order) (record { named = named; types = types; bounds = bounds })
