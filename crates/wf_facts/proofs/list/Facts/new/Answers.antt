use Rattle.wf_facts.proofs.LeftLemmas.{IsOver-empty}
use Rattle.wf_facts.proofs.list.Facts.new.Goals as goal

pub returns-clause-over : goal.returns-clause-over
returns-clause-over c nodes = IsOver-empty nodes c.in_ok-slots.slots c.new-2.result.words (c.in_ok-slots.ensures.over nodes) c.in_ok-slots.ensures.empty c.new-2.ensures.words
