use Rattle.std.proofs.Common.{◌≡◌}
use Rattle.wf_num.specs.Extremes.{greatest_of}
use Rattle.wf_num.specs.Trials.{bitwise}
use Rattle.wf_num.proofs.trials.Bitwise.greatest_in_row.Given as goal

abbrev pub invariant-loop-i : goal.invariant-loop-i
invariant-loop-i l = l.top ≡ greatest_of (bitwise l.self l.x) l.ys.lo l.i
