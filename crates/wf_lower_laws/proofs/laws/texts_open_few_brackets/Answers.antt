use Rattle.wf_lower_laws.proofs.BracketLaw.{texts_are_shallow}
use Rattle.wf_lower_laws.proofs.laws.texts_open_few_brackets.Goals as goal

pub returns : goal.returns
returns c = texts_are_shallow
