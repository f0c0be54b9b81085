use Rattle.std.proofs.Common.{◌≡◌, drop}
use Rattle.wf_outside.specs.InMemory.{gone_at}
use Rattle.wf_outside.proofs.entries.find_gone.Given as goal

abbrev pub invariant-loop-entry : goal.invariant-loop-entry
invariant-loop-entry l = gone_at (drop l.entry-index l.failing) l.call ≡ gone_at l.failing l.call
