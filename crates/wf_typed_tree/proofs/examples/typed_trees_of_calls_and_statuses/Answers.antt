use Rattle.std.proofs.Common.{refl}
use Rattle.wf_typed_tree.specs.ElaboratedPackage.{typed_package}
use Rattle.wf_typed_tree.proofs.examples.typed_trees_of_calls_and_statuses.Goals as goal

pub returns-clause-status_assigned : goal.returns-clause-status_assigned
unfolding typed_package
returns-clause-status_assigned c = refl

pub returns-clause-status_compared : goal.returns-clause-status_compared
unfolding typed_package
returns-clause-status_compared c = refl

pub returns-clause-status_asked : goal.returns-clause-status_asked
unfolding typed_package
returns-clause-status_asked c = refl

pub returns-clause-status_kept : goal.returns-clause-status_kept
unfolding typed_package
returns-clause-status_kept c = refl

pub returns-clause-coroutine_called : goal.returns-clause-coroutine_called
unfolding typed_package
returns-clause-coroutine_called c = refl

pub returns-clause-answer_assigned : goal.returns-clause-answer_assigned
unfolding typed_package
returns-clause-answer_assigned c = refl

pub returns-clause-field_called : goal.returns-clause-field_called
unfolding typed_package
returns-clause-field_called c = refl

pub returns-clause-status_returned : goal.returns-clause-status_returned
unfolding typed_package
returns-clause-status_returned c = refl

pub returns-clause-number_returned : goal.returns-clause-number_returned
unfolding typed_package
returns-clause-number_returned c = refl

pub returns-clause-yielding : goal.returns-clause-yielding
unfolding typed_package
returns-clause-yielding c = refl

pub returns-clause-claiming : goal.returns-clause-claiming
unfolding typed_package
returns-clause-claiming c = refl

pub returns-clause-claiming_alone : goal.returns-clause-claiming_alone
unfolding typed_package
returns-clause-claiming_alone c = refl
