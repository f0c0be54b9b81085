use Rattle.wf_tool.proofs.PlainRuns.{plain_loaders}
use Rattle.wf_tool.proofs.laws.plain_loaders_run_by_c.Goals as goal

pub returns : goal.returns
returns c = plain_loaders
