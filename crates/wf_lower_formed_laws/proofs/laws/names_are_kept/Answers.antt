use Rattle.wf_lower_formed_laws.proofs.NamesKept.{names_are_kept}
use Rattle.wf_lower_formed_laws.proofs.laws.names_are_kept.Goals as goal

pub returns : goal.returns
returns c = names_are_kept
