use Rattle.wf_names_verdicts.proofs.Names.{names-are-decided}
use Rattle.wf_names_verdicts.proofs.laws.names_are_decided.Goals as goal

pub returns : goal.returns
returns c = names-are-decided
