use Rattle.std.proofs.Common.{◌≡◌, ◌≤◌, ◌-◌, length, take, true}
use Rattle.std.specs.List.{list_all}
use Rattle.c_read_grammar.specs.FirstToken.{is_digit}
use Rattle.c_read_tokens.proofs.numbers.digits_len.Given as goal

abbrev pub invariant-loop-len : goal.invariant-loop-len
invariant-loop-len l = record { within : l.len ≤ length l.text; run : list_all is_digit (take l.len l.text) ≡ true }

abbrev pub decreases-loop-len : goal.decreases-loop-len
decreases-loop-len l = length l.initial.text - l.len
