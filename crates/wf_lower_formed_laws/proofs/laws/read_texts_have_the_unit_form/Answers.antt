use Rattle.wf_lower_formed_laws.proofs.AcceptedForm.{read_texts_are_formed}
use Rattle.wf_lower_formed_laws.proofs.laws.read_texts_have_the_unit_form.Goals as goal

pub returns : goal.returns
returns c = read_texts_are_formed
