use Rattle.std.proofs.Common.{refl}
use Rattle.wf_typed_tree.specs.ElaboratedPackage.{typed_package}
use Rattle.wf_typed_tree.proofs.examples.typed_trees_of_base_methods.Goals as goal

pub returns-clause-reading : goal.returns-clause-reading
unfolding typed_package
returns-clause-reading c = refl

pub returns-clause-reading_more : goal.returns-clause-reading_more
unfolding typed_package
returns-clause-reading_more c = refl

pub returns-clause-skipping : goal.returns-clause-skipping
unfolding typed_package
returns-clause-skipping c = refl

pub returns-clause-writing : goal.returns-clause-writing
unfolding typed_package
returns-clause-writing c = refl

pub returns-clause-skipping_fast : goal.returns-clause-skipping_fast
unfolding typed_package
returns-clause-skipping_fast c = refl

pub returns-clause-writing_fast : goal.returns-clause-writing_fast
unfolding typed_package
returns-clause-writing_fast c = refl

pub returns-clause-copying : goal.returns-clause-copying
unfolding typed_package
returns-clause-copying c = refl

pub returns-clause-copying_a_part : goal.returns-clause-copying_a_part
unfolding typed_package
returns-clause-copying_a_part c = refl

pub returns-clause-lengths : goal.returns-clause-lengths
unfolding typed_package
returns-clause-lengths c = refl

pub returns-clause-closing : goal.returns-clause-closing
unfolding typed_package
returns-clause-closing c = refl

pub returns-clause-peeking : goal.returns-clause-peeking
unfolding typed_package
returns-clause-peeking c = refl

pub returns-clause-slicing : goal.returns-clause-slicing
unfolding typed_package
returns-clause-slicing c = refl

pub returns-clause-indexing : goal.returns-clause-indexing
unfolding typed_package
returns-clause-indexing c = refl
