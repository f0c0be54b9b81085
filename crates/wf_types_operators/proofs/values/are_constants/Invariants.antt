use Rattle.std.proofs.Common.{◌≡◌, drop}
use Rattle.std.specs.List.{list_all}
use Rattle.wf_types_rules.specs.Meanings.{is_constant}
use Rattle.wf_types_operators.proofs.values.are_constants.Given as goal

abbrev pub invariant-loop-o : goal.invariant-loop-o
invariant-loop-o l = list_all (λ o. is_constant o.of) (drop l.o-index l.os) ≡ list_all (λ o. is_constant o.of) l.os
