use Rattle.wf_sound.proofs.ExampleLemmas.{running, refused, goes_on}
use Rattle.wf_sound.proofs.examples.what_the_law_supposes_is_met.Goals as goal

pub returns-clause-running : goal.returns-clause-running
returns-clause-running c = running

pub returns-clause-refused : goal.returns-clause-refused
returns-clause-refused c = refused

pub returns-clause-goes_on : goal.returns-clause-goes_on
returns-clause-goes_on c calls = goes_on calls
