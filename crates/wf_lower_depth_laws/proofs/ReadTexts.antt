-- The text of a package that is read opens few brackets.
use Rattle.std.proofs.Common.{sym, subst}
use Rattle.wf_ast.specs.ReadPackage.{decls_of}
use Rattle.wf_names_rules.specs.Declarations.{declared}
use Rattle.wf_names_resolve.specs.Package.{resolved_package}
use Rattle.wf_read_laws.proofs.ReadPackages.{packages_resolve_by_grammar}
use Rattle.wf_lower_laws.proofs.BracketLaw.{texts_are_shallow}
use Rattle.wf_lower_depth_laws.specs.DepthLaws.{IsWithin, ReadPackagesAreWithin, ReadTextsAreShallow}
use Rattle.wf_lower_depth_laws.proofs.ReadDepth.{read_methods_open_few}
use Rattle.wf_lower_depth_laws.proofs.ResolvedDepth.{resolving_keeps_depth}
use Rattle.wf_lower_depth_laws.proofs.TypedDepth.{typing_keeps_depth}

pub read_packages_are_within : ReadPackagesAreWithin
read_packages_are_within name files read parsed order struct_order =
    typing_keeps_depth (resolved_package read.name read.texts (decls_of read) order struct_order) (packages_resolve_by_grammar name files read parsed order struct_order)
    (resolving_keeps_depth (declared read.texts (decls_of read)) read.name (decls_of read) order struct_order (read_methods_open_few name files read parsed))

pub read_texts_are_shallow : ReadTextsAreShallow
read_texts_are_shallow name files read parsed order struct_order p tree = texts_are_shallow p (subst IsWithin (sym tree) (read_packages_are_within name files read parsed order struct_order))
