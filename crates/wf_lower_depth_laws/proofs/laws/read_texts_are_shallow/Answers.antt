use Rattle.wf_lower_depth_laws.proofs.ReadTexts.{read_texts_are_shallow}
use Rattle.wf_lower_depth_laws.proofs.laws.read_texts_are_shallow.Goals as goal

pub returns : goal.returns
returns c = read_texts_are_shallow
