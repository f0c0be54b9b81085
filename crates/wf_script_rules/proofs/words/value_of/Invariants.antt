use Rattle.std.proofs.Common.{◌≡◌, ◌<◌, ◌^◌, drop}
use Rattle.wf_script_rules.specs.Words.{value_from}
use Rattle.wf_script_rules.proofs.words.value_of.Given as goal

abbrev pub invariant-loop-digit : goal.invariant-loop-digit
invariant-loop-digit l = record {
  small : l.value < 2 ^ 64;
  same : value_from l.value (drop l.digit-index l.digits) ≡ value_from 0 l.digits;
}
