use Rattle.wf_names_decls.proofs.LabelLaws.{labels-exact}
use Rattle.wf_names_decls.proofs.laws.found_of_labels_decides.Goals as goal

pub returns : goal.returns
returns c = labels-exact
