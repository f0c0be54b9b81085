use Rattle.std.proofs.Common.{◌≡◌, drop}
use Rattle.wf_types_rules.specs.Meanings.{is_flag}
use Rattle.wf_types_rules.specs.Operands.{first_not}
use Rattle.wf_types_operators.proofs.taken.first_no_flag.Given as goal

abbrev pub invariant-loop-o : goal.invariant-loop-o
invariant-loop-o l = first_not is_flag (drop l.o-index l.os) ≡ first_not is_flag l.os
