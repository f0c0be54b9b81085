-- What a package that is read breaks of the rules of types and effects stands in one of its files.
use Rattle.std.proofs.Common.{length}
use Rattle.wf_ast.specs.ReadPackage.{decls_of}
use Rattle.wf_parse.proofs.DeclPlaces.{decls_have_files}
use Rattle.wf_read_laws.proofs.FilePlaces.{Below, decls-below}
use Rattle.wf_names_resolve.specs.Package.{resolved_package}
use Rattle.wf_read_laws.specs.TypePlaceLaws.{BreaksHaveFiles, PackagesBreakInFiles}
use Rattle.wf_read_laws.proofs.BrokenPlaces.{breaks-in}
use Rattle.wf_read_laws.proofs.PackageResolved.{package-in}

pub breaks_have_files : BreaksHaveFiles
breaks_have_files count name texts decls order struct_order of s b =
    breaks-in (Below count) (resolved_package name texts decls order struct_order) (package-in (Below count) name texts decls order struct_order (decls-below count decls of)) s b

pub packages_break_in_files : PackagesBreakInFiles
packages_break_in_files name files p read order struct_order s b =
    breaks_have_files (length files) p.name p.texts (decls_of p) order struct_order (decls_have_files name files p read) s b
