use Rattle.wf_names_nodes.proofs.StandingLemmas.{standing_same}
use Rattle.wf_names_nodes.proofs.laws.tables_stand_for_declarations.Goals as goal

pub returns : goal.returns
returns c = standing_same
