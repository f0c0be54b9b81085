use Rattle.std.proofs.Common.{refl}
use Rattle.wf_named.specs.NamedTrees.{expr_trees, stmt_trees}
use Rattle.wf_named.specs.NamedParts.{named_package}
use Rattle.wf_named.proofs.examples.the_nodes_of_a_package.Goals as goal

pub returns-clause-tree : goal.returns-clause-tree
unfolding named_package expr_trees stmt_trees
returns-clause-tree c = refl
