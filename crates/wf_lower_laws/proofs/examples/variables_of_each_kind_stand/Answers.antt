use Rattle.wf_lower_laws.proofs.MixerLemmas.{typed, text, body_there, arguments, fresh, begins, source_goes_on, c_goes_on, stands}
use Rattle.wf_lower_laws.proofs.examples.variables_of_each_kind_stand.Goals as goal

pub returns-clause-typed : goal.returns-clause-typed
returns-clause-typed c = typed

pub returns-clause-text : goal.returns-clause-text
returns-clause-text c = text

pub returns-clause-body : goal.returns-clause-body
returns-clause-body c = body_there

pub returns-clause-arguments : goal.returns-clause-arguments
returns-clause-arguments c = arguments

pub returns-clause-fresh : goal.returns-clause-fresh
returns-clause-fresh c = fresh

pub returns-clause-begins : goal.returns-clause-begins
returns-clause-begins c = begins

pub returns-clause-sets : goal.returns-clause-sets
returns-clause-sets c = source_goes_on

pub returns-clause-sets_in_c : goal.returns-clause-sets_in_c
returns-clause-sets_in_c c = c_goes_on

pub returns-clause-stands : goal.returns-clause-stands
returns-clause-stands c = stands
