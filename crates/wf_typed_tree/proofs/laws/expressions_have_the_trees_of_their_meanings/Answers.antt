use Rattle.wf_typed_tree.proofs.ExprLaws.{expr-means}
use Rattle.wf_typed_tree.proofs.laws.expressions_have_the_trees_of_their_meanings.Goals as goal

pub returns : goal.returns
returns c names s context agree e m g n h = expr-means names s context agree e m g n h
