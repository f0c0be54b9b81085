use Rattle.std.proofs.Common.{refl}
use Rattle.wf_typed_tree.specs.ElaboratedPackage.{typed_package}
use Rattle.wf_typed_tree.proofs.examples.typed_trees_of_blocks.Goals as goal

pub returns-clause-else_if : goal.returns-clause-else_if
unfolding typed_package
returns-clause-else_if c = refl

pub returns-clause-loops : goal.returns-clause-loops
unfolding typed_package
returns-clause-loops c = refl
