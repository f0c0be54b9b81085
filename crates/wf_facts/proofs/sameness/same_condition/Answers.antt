use Rattle.std.proofs.Common.{◌∙◌}
use Rattle.wf_facts.proofs.MentioningLemmas.{conditions_same}
use Rattle.wf_facts.proofs.sameness.same_condition.Goals as goal

pub returns : goal.returns
returns c =
    c.same.ensures
    ∙ conditions_same c.args.t.now c.args.e c.args.other c.expr-node.result.now c.expr-other.result.now c.expr-node.ensures.made c.expr-node.ensures.kinds c.expr-other.ensures.made c.expr-other.ensures.kinds
    c.requires.first c.requires.second
