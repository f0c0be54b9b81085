use Rattle.wf_facts.proofs.ExampleLemmas.{byte_set, this_set}
use Rattle.wf_facts.proofs.examples.sets_of_a_digit.Goals as goal

pub returns-clause-byte : goal.returns-clause-byte
returns-clause-byte c = λ nodes known h. byte_set nodes known.list h

pub returns-clause-this : goal.returns-clause-this
returns-clause-this c = λ nodes known h. this_set nodes known.list h
