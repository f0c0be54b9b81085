use Rattle.std.proofs.Common.{◌≡◌, drop}
use Rattle.wf_types_rules.specs.Operands.{first_not, fits_width}
use Rattle.wf_types_operators.proofs.fitting.first_unfit_in.Given as goal

abbrev pub invariant-loop-o : goal.invariant-loop-o
invariant-loop-o l = first_not (fits_width l.width) (drop l.o-index l.os) ≡ first_not (fits_width l.width) l.os
