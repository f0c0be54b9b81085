use Rattle.std.proofs.Common.{◌≡◌, ◌≤◌, ◌+◌, length}
use Rattle.wf_facts.proofs.LeftLemmas.{left_from}
use Rattle.wf_facts.proofs.list.Facts.len.Given as goal

-- As many facts as are counted, and those that are left behind the slots so far, are all.
abbrev pub invariant-loop-i : goal.invariant-loop-i
invariant-loop-i l = (l.many ≤ l.i) × (l.many + length (left_from l.self-inside.gone.words l.self-inside.slots.list l.i) ≡ length l.self.list)
