-- What a list of buffers or byte arrays is after a write to one of them.
use Rattle.std.specs.Prelude.{ℕ, List, slice_set}
use Rattle.std.specs.Borrow.{Lends, MutBor, Fml}
use Rattle.wf_base.specs.BaseOps.{Buffer}
use Rattle.wf_bufs.specs.contracts.bufs.BufList.{the_row as list_row}
use Rattle.wf_bufs.specs.contracts.bufs.ByteArrays.{the_row as arrays_row}
use Rattle.wf_bufs.specs.contracts.bufs.ByteArray.{the_row as array_row}
use Rattle.wf_bufs.specs.contracts.buffers.Buf.{the_row as buffer_row}

-- The list ends with the last value after the reference in place of buffer `k`.
abbrev pub LendsBuffer : MutBor (List Buffer) → ℕ → MutBor Buffer → Fml
LendsBuffer list k lent = Lends list_row buffer_row list lent (slice_set list.now k)

abbrev pub LendsArray : MutBor (List (List ℕ)) → ℕ → MutBor (List ℕ) → Fml
LendsArray list k lent = Lends arrays_row array_row list lent (slice_set list.now k)
