use Rattle.std.proofs.Common.{◌≡◌, take}
use Rattle.wf_types.proofs.texts.texts_copied.Given as goal

abbrev pub invariant-loop-number : goal.invariant-loop-number
invariant-loop-number l = l.all ≡ take l.number l.nodes.texts
