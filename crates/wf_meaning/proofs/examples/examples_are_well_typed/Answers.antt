use Rattle.std.proofs.Common.{refl}
use Rattle.wf_ast.specs.WellTyped.{well_typed}
use Rattle.wf_meaning.proofs.examples.examples_are_well_typed.Goals as goal

pub returns-clause-demo : goal.returns-clause-demo
unfolding well_typed
returns-clause-demo c = refl

pub returns-clause-two : goal.returns-clause-two
unfolding well_typed
returns-clause-two c = refl

pub returns-clause-keep : goal.returns-clause-keep
unfolding well_typed
returns-clause-keep c = refl

pub returns-clause-word : goal.returns-clause-word
unfolding well_typed
returns-clause-word c = refl

pub returns-clause-resuming : goal.returns-clause-resuming
unfolding well_typed
returns-clause-resuming c = refl

pub returns-clause-nested : goal.returns-clause-nested
unfolding well_typed
returns-clause-nested c = refl

pub returns-clause-copies : goal.returns-clause-copies
unfolding well_typed
returns-clause-copies c = refl

pub returns-clause-labels : goal.returns-clause-labels
unfolding well_typed
returns-clause-labels c = refl

pub returns-clause-giving_up : goal.returns-clause-giving_up
unfolding well_typed
returns-clause-giving_up c = refl

pub returns-clause-spin : goal.returns-clause-spin
unfolding well_typed
returns-clause-spin c = refl
