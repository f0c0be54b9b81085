use Rattle.std.proofs.Common.{◌≤◌, ◌+◌, length}
use Rattle.wf_tokens.specs.Spelling.{left}
use Rattle.wf_parse.proofs.Lexed.{PassedSoFar}
use Rattle.wf_parse.proofs.lexing.Tokens.pass_over.Given as goal

abbrev pub invariant-loop : goal.invariant-loop
invariant-loop l = record {
  passed : PassedSoFar l.fn.self l.self l.fn.parsed.texts l.parsed.texts;
  room : length l.parsed.texts + left l.self ≤ length l.fn.parsed.texts + left l.fn.self;
}

abbrev pub decreases-loop : goal.decreases-loop
decreases-loop l = left l.self
