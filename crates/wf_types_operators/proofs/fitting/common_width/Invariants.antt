use Rattle.std.proofs.Common.{◌≡◌, drop}
use Rattle.wf_types_rules.specs.Operands.{first_of, common_width}
use Rattle.wf_types_operators.proofs.fitting.common_width.Given as goal

abbrev pub invariant-loop-o : goal.invariant-loop-o
invariant-loop-o l = first_of l.width (common_width (drop l.o-index l.os)) ≡ common_width l.os
