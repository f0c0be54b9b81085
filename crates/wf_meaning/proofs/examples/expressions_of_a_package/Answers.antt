use Rattle.std.proofs.Common.{refl}
use Rattle.wf_ast.specs.TypedTrees.{expr_trees}
use Rattle.wf_meaning.proofs.examples.expressions_of_a_package.Goals as goal

pub returns-clause-target : goal.returns-clause-target
unfolding expr_trees
returns-clause-target c = refl

pub returns-clause-sums : goal.returns-clause-sums
unfolding expr_trees
returns-clause-sums c = refl

pub returns-clause-product : goal.returns-clause-product
unfolding expr_trees
returns-clause-product c = refl

pub returns-clause-local : goal.returns-clause-local
unfolding expr_trees
returns-clause-local c = refl

pub returns-clause-field : goal.returns-clause-field
unfolding expr_trees
returns-clause-field c = refl

pub returns-clause-no_field : goal.returns-clause-no_field
unfolding expr_trees
returns-clause-no_field c = refl
