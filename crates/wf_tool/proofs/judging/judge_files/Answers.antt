use Rattle.std.proofs.Common.{map}
use Rattle.wf_tool.proofs.JudgingLemmas.{read-judged}
use Rattle.wf_tool.proofs.TakingLemmas.{sized-bytes}
use Rattle.wf_tool.proofs.judging.judge_files.Goals as goal

pub parse-requires-clause-bytes : goal.parse-requires-clause-bytes
parse-requires-clause-bytes c = sized-bytes (λ file. file.items) c.args.files.now c.requires.sized

pub returns : goal.returns
returns c =
    read-judged c.args.name.now (map (λ file. file.items) c.args.files.now) c.in_ok-parsed.parsed c.judge_read.result c.requires.named c.requires.sized c.in_ok-parsed.ensures c.judge_read.ensures
