use Rattle.wf_lower_laws.proofs.HelperLaw.{texts_have_helpers}
use Rattle.wf_lower_laws.proofs.laws.texts_have_their_helpers.Goals as goal

pub returns : goal.returns
returns c = texts_have_helpers
