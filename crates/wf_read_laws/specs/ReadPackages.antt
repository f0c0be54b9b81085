-- The laws of packages that are read and resolved: in whatever order its methods stand, such a package is as the grammar gives,
-- and its statements stand in order of place in its typed tree.
use Rattle.std.specs.Prelude.{◌≡◌, ℕ, true, List}
use Rattle.wf_ast.specs.ParsedParts.{Parsed}
use Rattle.wf_ast.specs.StatementOrder.{stand_in_order}
use Rattle.wf_ast.specs.ReadPackage.{decls_of}
use Rattle.wf_named.specs.Grammar.{package_by_grammar}
use Rattle.wf_parse.specs.Parsing.{IsParsed}
use Rattle.wf_names_resolve.specs.Package.{resolved_package}
use Rattle.wf_typed_tree.specs.ElaboratedPackage.{typed_package}

abbrev pub PackagesResolveByGrammar : Type 0
PackagesResolveByGrammar = (name : List ℕ) (files : List (List ℕ)) (p : Parsed) → IsParsed name files p → (order struct_order : List ℕ) → package_by_grammar (resolved_package p.name p.texts (decls_of p) order struct_order) ≡ true

abbrev pub ReadPackagesStandInOrder : Type 0
ReadPackagesStandInOrder = (name : List ℕ) (files : List (List ℕ)) (p : Parsed) → IsParsed name files p → (order struct_order : List ℕ) → stand_in_order (typed_package (resolved_package p.name p.texts (decls_of p) order struct_order)) ≡ true
