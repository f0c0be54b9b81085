use Rattle.wf_ast.proofs.SameValue.{number_same, slices_same, cond_same}
use Rattle.wf_ast.proofs.laws.the_same_trees_have_the_same_value.Goals as goal

pub returns-clause-numbers : goal.returns-clause-numbers
returns-clause-numbers k c s a b h j e = number_same c s a b h j e

pub returns-clause-slices : goal.returns-clause-slices
returns-clause-slices k c s a b h j e = slices_same c s a b h j e

pub returns-clause-conditions : goal.returns-clause-conditions
returns-clause-conditions k c s a b h j e = cond_same c s a b h j e
