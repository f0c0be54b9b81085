use Rattle.wf_tool.proofs.RefusalFiles.{verdict-files}
use Rattle.wf_tool.proofs.laws.a_refusal_has_its_file.Goals as goal

pub returns : goal.returns
returns c = verdict-files
