use Rattle.wf_lower_laws.proofs.TextWhiles.{texts_loop_alike}
use Rattle.wf_lower_laws.proofs.laws.texts_and_packages_loop_alike.Goals as goal

pub returns : goal.returns
returns c = texts_loop_alike
