use Rattle.wf_lower_laws.proofs.FormLaw.{texts_are_formed}
use Rattle.wf_lower_laws.proofs.laws.a_text_has_the_unit_form_where_typed.Goals as goal

pub returns : goal.returns
returns c = texts_are_formed
