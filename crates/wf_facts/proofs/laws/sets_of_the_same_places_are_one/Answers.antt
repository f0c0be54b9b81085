use Rattle.wf_facts.proofs.ExampleLemmas.{one_set}
use Rattle.wf_facts.proofs.laws.sets_of_the_same_places_are_one.Goals as goal

pub returns : goal.returns
returns c = one_set
