use Rattle.wf_names_laws.proofs.WholeLaws.{structs-whole}
use Rattle.wf_names_laws.proofs.well_named.structs_are_whole.Goals as goal

pub returns : goal.returns
returns c = structs-whole
