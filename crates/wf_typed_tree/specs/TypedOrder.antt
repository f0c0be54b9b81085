-- The laws of the order of statements in typed trees.
use Rattle.std.specs.Prelude.{◌≡◌, ℕ, true, List}
use Rattle.wf_ast.specs.StatementOrder.{sites_in, ascend, stand_in_order}
use Rattle.wf_ast.specs.StatementPlaces.{rise}
use Rattle.wf_named.specs.NamedTree.{NamedBlockTree, NamedPackageTree}
use Rattle.wf_named.specs.NamedStatementPlaces.{named_block_places, named_bodies_rise}
use Rattle.wf_types_rules.specs.declared.settings.Setting.{Setting}
use Rattle.wf_typed_tree.specs.ElaboratedStmts.{block_tree}
use Rattle.wf_typed_tree.specs.ElaboratedPackage.{typed_package}

-- What stands in order in a resolved body does so in the typed one.
abbrev pub TypedBodiesKeepOrder : Type 0
TypedBodiesKeepOrder = (s : Setting) (loops : List ℕ) (n : ℕ) (body : NamedBlockTree) → rise (named_block_places body) ≡ true → ascend (sites_in (block_tree s loops n body)) ≡ true

-- So it is throughout a package.
abbrev pub TypedPackagesKeepOrder : Type 0
TypedPackagesKeepOrder = (p : NamedPackageTree) → named_bodies_rise p ≡ true → stand_in_order (typed_package p) ≡ true
