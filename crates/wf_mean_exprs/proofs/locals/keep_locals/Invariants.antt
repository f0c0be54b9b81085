use Rattle.std.proofs.Common.{◌≡◌, map, take}
use Rattle.wf_meaning.specs.World.{kept_locals}
use Rattle.wf_mean_exprs.specs.MachineState.{slot_seen}
use Rattle.wf_mean_exprs.proofs.locals.keep_locals.Given as goal

-- So far what is kept is kept of the locals.
abbrev pub invariant-loop-i : goal.invariant-loop-i
invariant-loop-i l = map slot_seen (take l.i l.kept) ≡ kept_locals (map slot_seen (take l.i l.locals))
