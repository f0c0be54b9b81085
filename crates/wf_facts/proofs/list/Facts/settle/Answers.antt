use Rattle.std.proofs.Common.{ap, ◌∙◌}
use Rattle.wf_facts.proofs.LeftLemmas.{left-none, slots_over, IsOver-whole}
use Rattle.wf_facts.proofs.list.Facts.settle.Goals as goal

pub returns-clause-list : goal.returns-clause-list
returns-clause-list c =
    left-none c.new-self-inside.result.words c.drop_set.new.self.list c.new-self-inside.ensures.words ∙ c.drop_set.ensures.list ∙ ap (λ f. f.list) c.self.view_is

pub returns-clause-over : goal.returns-clause-over
returns-clause-over c nodes over =
    IsOver-whole nodes c.drop_set.new.self c.new-self-inside.result.words (c.drop_set.ensures.over nodes (slots_over nodes c.args.self.now _ c.self.view_is over)) c.drop_set.ensures.small c.new-self-inside.ensures.words
