use Rattle.std.proofs.Common.{refl}
use Rattle.wf_ast.specs.StatementOrder.{stand_in_order}
use Rattle.wf_ast.specs.WellTyped.{well_typed}
use Rattle.wf_typed_tree.specs.ElaboratedPackage.{typed_package}
use Rattle.wf_typed_tree.proofs.examples.the_typed_tree_of_a_package.Goals as goal

pub returns-clause-tree : goal.returns-clause-tree
unfolding typed_package
returns-clause-tree c = refl

pub returns-clause-kept : goal.returns-clause-kept
unfolding typed_package well_typed
returns-clause-kept c = refl

pub returns-clause-placed : goal.returns-clause-placed
unfolding typed_package stand_in_order
returns-clause-placed c = refl
