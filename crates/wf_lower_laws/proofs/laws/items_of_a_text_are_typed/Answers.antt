use Rattle.wf_lower_laws.proofs.ItemTypes.{texts_are_typed}
use Rattle.wf_lower_laws.proofs.laws.items_of_a_text_are_typed.Goals as goal

pub returns : goal.returns
returns c = texts_are_typed
