use Rattle.std.proofs.Common.{◌≡◌, drop, None}
use Rattle.wf_types_rules.specs.Operands.{not_of_one_width}
use Rattle.wf_types_operators.proofs.taken.not_of_one_width.Given as goal

abbrev pub invariant-loop-o : goal.invariant-loop-o
invariant-loop-o l = not_of_one_width l.width (drop l.o-index l.os) ≡ not_of_one_width None l.os
