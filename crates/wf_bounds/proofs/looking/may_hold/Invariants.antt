use Rattle.std.proofs.Common.{◌≡◌, false, drop}
use Rattle.wf_bounds.specs.MethodWalks.{last_reaches}
use Rattle.wf_bounds.proofs.looking.may_hold.Given as goal

-- With the statements that are left the answer is that of all.
abbrev pub invariant-loop-i : goal.invariant-loop-i
invariant-loop-i l = last_reaches l.s.0 l.reaches (drop l.i-index l.i-items) ≡ last_reaches l.s.0 false l.i-items
