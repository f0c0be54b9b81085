use Rattle.std.proofs.Common.{◌≡◌, ◌<◌, ◌^◌, drop}
use Rattle.wf_tokens.specs.Numbers.{value_from}
use Rattle.wf_tokens.proofs.numbers.value_of.Given as goal

abbrev pub invariant-loop-byte : goal.invariant-loop-byte
invariant-loop-byte l = record {
  small : l.value < 2 ^ 64;
  same : value_from l.base l.value (drop l.byte-index l.digits) ≡ value_from l.base 0 l.digits;
}
