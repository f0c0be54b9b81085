use Rattle.wf_lower_laws.proofs.ExampleLemmas.{typed, no_pointer, body_there, begins, stands, gives, kinds}
use Rattle.wf_lower_laws.proofs.examples.what_the_laws_suppose_is_met.Goals as goal

pub returns-clause-typed : goal.returns-clause-typed
returns-clause-typed c = typed

pub returns-clause-no_pointer : goal.returns-clause-no_pointer
returns-clause-no_pointer c = no_pointer

pub returns-clause-body : goal.returns-clause-body
returns-clause-body c = body_there

pub returns-clause-begins : goal.returns-clause-begins
returns-clause-begins c = begins

pub returns-clause-stands : goal.returns-clause-stands
returns-clause-stands c = stands

pub returns-clause-gives : goal.returns-clause-gives
returns-clause-gives c = gives

pub returns-clause-kinds : goal.returns-clause-kinds
returns-clause-kinds c = kinds
