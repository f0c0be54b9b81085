use Rattle.wf_lower_laws.proofs.NameLaw.{texts_name_apart}
use Rattle.wf_lower_laws.proofs.laws.names_of_a_function_differ.Goals as goal

pub returns : goal.returns
returns c = texts_name_apart
