use Rattle.std.proofs.Common.{sym, ◌∙◌}
use Rattle.wf_facts_exprs.proofs.NodeHeads.{head_seen}
use Rattle.wf_facts_exprs.proofs.known.node_head.Goals as goal

pub returns-clause-head : goal.returns-clause-head
returns-clause-head c =
    c.expr_head.ensures.head
    ∙ sym (head_seen c.args.t.now c.args.e c.expr.result.now (record { tree = c.expr.ensures.made; kinds = c.expr.ensures.kinds; parts = c.expr.ensures.parts }) c.requires.node c.requires.plain)
