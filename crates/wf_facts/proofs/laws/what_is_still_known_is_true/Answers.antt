use Rattle.wf_facts.proofs.LawLemmas.{changed-true}
use Rattle.wf_facts.proofs.laws.what_is_still_known_is_true.Goals as goal

pub returns : goal.returns
returns c x change s s' fs takes h = changed-true x change s s' takes fs h
