use Rattle.c_read_tokens.proofs.HeaderLaws.{first_bad, second_bad, third_bad}
use Rattle.c_read_tokens.proofs.headers.behind_lines.Goals as goal

pub returns-in-None-behind_line-2-clause-bad : goal.returns-in-None-behind_line-2-clause-bad
returns-in-None-behind_line-2-clause-bad c = third_bad c.stddef.result.now c.stdint.result.now c.string.result.now c.args.bytes.now c.in-Some.second.now c.in-Some-behind_line.third.now c.stddef.ensures c.stdint.ensures c.string.ensures c.in-Some.ensures.some c.in-Some-behind_line.ensures.some c.in-None-behind_line-2.ensures.none

pub returns-in-None-behind_line-clause-bad : goal.returns-in-None-behind_line-clause-bad
returns-in-None-behind_line-clause-bad c = second_bad c.stddef.result.now c.stdint.result.now c.args.bytes.now c.in-Some.second.now c.stddef.ensures c.stdint.ensures c.in-Some.ensures.some c.in-None-behind_line.ensures.none

pub returns-in-None-clause-bad : goal.returns-in-None-clause-bad
returns-in-None-clause-bad c = first_bad c.stddef.result.now c.args.bytes.now c.stddef.ensures c.in-None.ensures.none
