use Rattle.std.proofs.Common.{◌≡◌, ◌-◌}
use Rattle.wf_num.specs.Extremes.{greatest_of}
use Rattle.wf_num.specs.Trials.{bitwise}
use Rattle.wf_num.proofs.trials.Bitwise.greatest.Given as goal

abbrev pub invariant-loop-i : goal.invariant-loop-i
invariant-loop-i l = l.top ≡ greatest_of (λ x. greatest_of (bitwise l.self x) l.ys.lo (l.ys.hi - l.ys.lo)) l.xs.lo l.i
