use Rattle.std.proofs.Common.{refl}
use Rattle.wf_names_scopes.proofs.scopes.enter_struct.Goals as goal

pub returns : goal.returns
returns c = λ d all. record { constants = all; this = refl; inside = (refl, refl) }
