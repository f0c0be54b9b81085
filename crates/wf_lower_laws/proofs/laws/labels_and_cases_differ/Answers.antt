use Rattle.wf_lower_laws.proofs.LabelLaw.{texts_are_labelled}
use Rattle.wf_lower_laws.proofs.laws.labels_and_cases_differ.Goals as goal

pub returns : goal.returns
returns c = texts_are_labelled
