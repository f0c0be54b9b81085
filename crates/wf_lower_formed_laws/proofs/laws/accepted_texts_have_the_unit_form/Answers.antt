use Rattle.wf_lower_formed_laws.proofs.AcceptedForm.{accepted_texts_are_formed}
use Rattle.wf_lower_formed_laws.proofs.laws.accepted_texts_have_the_unit_form.Goals as goal

pub returns : goal.returns
returns c = accepted_texts_are_formed
