use Rattle.wf_facts.proofs.DropLemmas.{AreOver-new}
use Rattle.wf_facts.proofs.indexed.Indexed.new.Goals as goal

pub returns-clause-over : goal.returns-clause-over
returns-clause-over c nodes = AreOver-new nodes c.in_ok-list.list.items _ _ _ c.in_ok-list.ensures.items c.in_ok-sets.ensures c.in_ok-fields.ensures c.in_ok-heads.ensures
