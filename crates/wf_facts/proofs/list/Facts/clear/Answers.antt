use Rattle.wf_facts.proofs.LeftLemmas.{IsOver-empty}
use Rattle.wf_facts.proofs.list.Facts.clear.Goals as goal

pub returns-clause-over : goal.returns-clause-over
returns-clause-over c nodes = IsOver-empty nodes c.clear.new.self c.new-self-inside.result.words (c.clear.ensures.over nodes) c.clear.ensures.empty c.new-self-inside.ensures.words
