use Rattle.wf_lower_laws.proofs.Whiles.{loop_alike}
use Rattle.wf_lower_laws.proofs.laws.methods_and_bodies_loop_alike.Goals as goal

pub returns : goal.returns
returns c = loop_alike
