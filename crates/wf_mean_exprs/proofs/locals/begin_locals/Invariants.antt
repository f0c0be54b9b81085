use Rattle.std.proofs.Common.{◌≡◌, map, take}
use Rattle.wf_meaning.specs.SourceCall.{fresh_local}
use Rattle.wf_mean_exprs.specs.MachineState.{slot_seen}
use Rattle.wf_mean_exprs.proofs.locals.begin_locals.Given as goal

-- The locals so far are those that a method begins with.
abbrev pub invariant-loop-i : goal.invariant-loop-i
invariant-loop-i l = map slot_seen (take l.i l.locals) ≡ map (λ x. fresh_local x.ty) (take l.i l.types)
