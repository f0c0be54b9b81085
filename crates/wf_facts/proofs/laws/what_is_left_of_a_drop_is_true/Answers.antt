use Rattle.wf_facts.proofs.LawLemmas.{without-true}
use Rattle.wf_facts.proofs.laws.what_is_left_of_a_drop_is_true.Goals as goal

pub returns : goal.returns
returns c x s s' fs agree h = without-true x s s' agree fs h
