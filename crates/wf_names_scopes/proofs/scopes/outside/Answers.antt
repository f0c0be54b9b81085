use Rattle.std.proofs.Common.{map, refl}
use Rattle.wf_names_rules.specs.Declarations.{as_variable}
use Rattle.wf_names_scopes.proofs.scopes.outside.Goals as goal

pub returns : goal.returns
returns c = λ d. record { constants = record { left = map as_variable d.constants; split = refl; count_is = refl }; this = refl; inside = (refl, refl) }
