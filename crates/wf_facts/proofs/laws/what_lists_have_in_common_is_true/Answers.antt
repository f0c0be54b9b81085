use Rattle.wf_facts.proofs.LawLemmas.{common-true}
use Rattle.wf_facts.proofs.CommonLaws.{common-second}
use Rattle.wf_facts.proofs.laws.what_lists_have_in_common_is_true.Goals as goal

pub returns-clause-first : goal.returns-clause-first
returns-clause-first k s fs others h = common-true s fs others h

pub returns-clause-second : goal.returns-clause-second
returns-clause-second k c s fs others well well' plain plain' h = common-second c s fs others well well' plain plain' h
