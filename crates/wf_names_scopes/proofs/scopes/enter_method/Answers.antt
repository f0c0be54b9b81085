use Rattle.std.proofs.Common.{refl}
use Rattle.wf_names_scopes.proofs.scopes.enter_method.Goals as goal

pub returns : goal.returns
returns c = λ d m all at. record { constants = all; this = refl; inside = record { method = m; at = at; args = refl; locals = refl } }
