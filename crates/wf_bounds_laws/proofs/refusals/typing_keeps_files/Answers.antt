use Rattle.wf_bounds_laws.proofs.StmtTyping.{typing_keeps_files}
use Rattle.wf_bounds_laws.proofs.refusals.typing_keeps_files.Goals as goal

pub returns : goal.returns
returns c = typing_keeps_files
