use Rattle.wf_tool.proofs.ByVerdict.{answers-are-verdicts}
use Rattle.wf_tool.proofs.laws.an_answer_is_the_verdict.Goals as goal

pub returns : goal.returns
returns c = answers-are-verdicts
