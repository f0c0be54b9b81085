-- A package that is read is resolved to one as the grammar gives, and its statements stand in order in its typed tree.
use Rattle.wf_ast.specs.ReadPackage.{decls_of}
use Rattle.wf_parse.proofs.ReadForms.{packages_are_well_formed}
use Rattle.wf_parse.proofs.ReadOrder.{reading_rises}
use Rattle.wf_names_rules.specs.Declarations.{declared}
use Rattle.wf_names_resolve.specs.Package.{resolved_package}
use Rattle.wf_names_laws.proofs.PackageKept.{resolving_keeps_form}
use Rattle.wf_names_laws.proofs.ResolvedOrder.{resolving_keeps_order}
use Rattle.wf_typed_tree.proofs.TypedOrder.{packages_keep_order}
use Rattle.wf_read_laws.specs.ReadPackages.{PackagesResolveByGrammar, ReadPackagesStandInOrder}

pub packages_resolve_by_grammar : PackagesResolveByGrammar
packages_resolve_by_grammar name files p a order struct_order = resolving_keeps_form (declared p.texts (decls_of p)) p.name (decls_of p) order struct_order (packages_are_well_formed name files p a)

pub read_packages_stand_in_order : ReadPackagesStandInOrder
read_packages_stand_in_order name files p read order struct_order =
    packages_keep_order (resolved_package p.name p.texts (decls_of p) order struct_order) (resolving_keeps_order p.name p.texts (decls_of p) order struct_order (reading_rises name files p read))
