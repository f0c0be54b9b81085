use Rattle.std.proofs.Common.{◌≡◌}
use Rattle.wf_bounds_stmts.specs.MethodRules.{facts_refusal}
use Rattle.wf_bounds.specs.MethodWalks.{refusal_from}
use Rattle.wf_bounds.proofs.deciding.check_methods.Given as goal

-- The methods so far are refused for nothing, so those that are left decide.
abbrev pub invariant-loop-m : goal.invariant-loop-m
invariant-loop-m l = refusal_from l.t l.m ≡ facts_refusal l.t
