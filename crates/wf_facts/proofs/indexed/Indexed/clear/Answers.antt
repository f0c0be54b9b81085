use Rattle.wf_facts.proofs.DropLemmas.{AreOver-new}
use Rattle.wf_facts.proofs.indexed.Indexed.clear.Goals as goal

pub returns-clause-over : goal.returns-clause-over
returns-clause-over c nodes = AreOver-new nodes c.clear.new.self.items _ _ _ c.clear.ensures.items c.clear-2.ensures c.clear-3.ensures c.clear-4.ensures
