use Rattle.std.proofs.Common.{◌≡◌, ◌<◌, ◌^◌, drop, true}
use Rattle.std.specs.List.{list_all}
use Rattle.c_read_grammar.specs.FirstToken.{is_digit}
use Rattle.c_read_tokens.specs.Numbers.{value_from}
use Rattle.c_read_tokens.proofs.numbers.value_of.Given as goal

abbrev pub invariant-loop-digit : goal.invariant-loop-digit
invariant-loop-digit l = record {
  small : l.value < 2 ^ 64;
  digits : list_all is_digit (drop l.digit-index l.digits) ≡ true;
  same : value_from l.value (drop l.digit-index l.digits) ≡ value_from 0 l.digits;
}
