use Rattle.wf_names_verdicts.proofs.Takes.{takes}
use Rattle.wf_names_verdicts.proofs.laws.fields_take_bytes.Goals as goal

pub returns : goal.returns
returns c = takes
