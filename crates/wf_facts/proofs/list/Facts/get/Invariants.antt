use Rattle.std.proofs.Common.{◌≡◌}
use Rattle.std.specs.Prelude.{slice_get}
use Rattle.wf_facts.proofs.LeftLemmas.{left_from}
use Rattle.wf_facts.proofs.list.Facts.get.Given as goal

-- What is looked for is among the facts that are left behind the slots so far.
abbrev pub invariant-loop-slot : goal.invariant-loop-slot
invariant-loop-slot l = slice_get (left_from l.self-inside.gone.words l.self-inside.slots.list l.slot) l.before ≡ slice_get l.self.list l.fn.i
