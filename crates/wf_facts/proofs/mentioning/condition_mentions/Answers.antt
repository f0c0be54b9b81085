use Rattle.std.proofs.Common.{◌∙◌}
use Rattle.wf_facts.proofs.MentioningLemmas.{condition_seen}
use Rattle.wf_facts.proofs.mentioning.condition_mentions.Goals as goal

pub returns : goal.returns
returns c = c.mentions.ensures ∙ condition_seen c.args.x c.args.t.now c.args.e c.expr-node.result.now c.expr-node.ensures.made c.expr-node.ensures.kinds c.requires
