use Rattle.std.proofs.Common.{refl}
use Rattle.wf_typed_tree.specs.ElaboratedPackage.{typed_package}
use Rattle.wf_typed_tree.proofs.examples.typed_trees_of_operators.Goals as goal

pub returns-clause-constant_beside : goal.returns-clause-constant_beside
unfolding typed_package
returns-clause-constant_beside c = refl

pub returns-clause-product_beside : goal.returns-clause-product_beside
unfolding typed_package
returns-clause-product_beside c = refl

pub returns-clause-converted_constant : goal.returns-clause-converted_constant
unfolding typed_package
returns-clause-converted_constant c = refl

pub returns-clause-converted : goal.returns-clause-converted
unfolding typed_package
returns-clause-converted c = refl

pub returns-clause-wide_shift : goal.returns-clause-wide_shift
unfolding typed_package
returns-clause-wide_shift c = refl

pub returns-clause-chain_of_three : goal.returns-clause-chain_of_three
unfolding typed_package
returns-clause-chain_of_three c = refl

pub returns-clause-constants_in_front : goal.returns-clause-constants_in_front
unfolding typed_package
returns-clause-constants_in_front c = refl

pub returns-clause-conditions_joined : goal.returns-clause-conditions_joined
unfolding typed_package
returns-clause-conditions_joined c = refl

pub returns-clause-update : goal.returns-clause-update
unfolding typed_package
returns-clause-update c = refl

pub returns-clause-element_update : goal.returns-clause-element_update
unfolding typed_package
returns-clause-element_update c = refl
