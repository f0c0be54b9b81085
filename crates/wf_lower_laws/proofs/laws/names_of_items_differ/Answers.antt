use Rattle.wf_lower_laws.proofs.ItemNames.{items_name_apart}
use Rattle.wf_lower_laws.proofs.laws.names_of_items_differ.Goals as goal

pub returns : goal.returns
returns c = items_name_apart
