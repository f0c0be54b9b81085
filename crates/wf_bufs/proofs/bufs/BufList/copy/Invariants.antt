use Rattle.std.proofs.Common.{◌≡◌, take}
use Rattle.wf_bufs.proofs.bufs.BufList.copy.Given as goal

abbrev pub invariant-loop-buf : goal.invariant-loop-buf
invariant-loop-buf l = l.list ≡ take l.buf-index l.buf-items
