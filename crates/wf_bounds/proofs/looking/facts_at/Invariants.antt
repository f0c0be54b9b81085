use Rattle.std.proofs.Common.{◌≡◌}
use Rattle.wf_bounds_stmts.specs.MethodRules.{facts_in_front}
use Rattle.wf_bounds.specs.MethodWalks.{front_from}
use Rattle.wf_bounds.proofs.looking.facts_at.Given as goal

-- The statement isn't reached in the methods so far.
abbrev pub invariant-loop-m : goal.invariant-loop-m
invariant-loop-m l = front_from l.t l.m l.s ≡ facts_in_front l.t l.s.0
