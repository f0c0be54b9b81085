use Rattle.wf_names_verdicts.proofs.Ways.{way-or-none}
use Rattle.wf_names_verdicts.proofs.laws.ways_are_decided.Goals as goal

pub returns : goal.returns
returns c = way-or-none
