use Rattle.std.proofs.Common.{◌≡◌, ◌++◌, map, take, drop}
use Rattle.c_mem.proofs.fields.zero_bytes.Given as goal

abbrev pub invariant-loop-byte : goal.invariant-loop-byte
invariant-loop-byte l = l.them ≡ map (λ _. 0) (take l.byte-index l.initial.them) ++ drop l.byte-index l.initial.them
