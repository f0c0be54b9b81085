use Rattle.std.proofs.Common.{◌≡◌, drop, false}
use Rattle.c_read_tokens.specs.Lexing.{double_from}
use Rattle.c_read_tokens.proofs.lexing.has_double_question.Given as goal

abbrev pub invariant-loop-byte : goal.invariant-loop-byte
invariant-loop-byte l = double_from l.found l.previous (drop l.byte-index l.text) ≡ double_from false false l.fn.text
