use Rattle.wf_tool.proofs.JudgingLemmas.{named-judged}
use Rattle.wf_tool.proofs.judging.judge_read.Goals as goal

pub returns : goal.returns
returns c =
    named-judged c.args.parsed c.in_ok-named.named c.judge_named.result c.in_ok-named.ensures.resolved c.judge_named.ensures
