use Rattle.std.proofs.Common.{◌≡◌, take}
use Rattle.wf_bufs.proofs.bufs.ByteArrays.copy.Given as goal

abbrev pub invariant-loop-array : goal.invariant-loop-array
invariant-loop-array l = l.list ≡ take l.array-index l.array-items
