use Rattle.wf_tool.proofs.ByVerdict.{answers-exist}
use Rattle.wf_tool.proofs.laws.an_answer_exists.Goals as goal

pub returns : goal.returns
returns c = answers-exist
