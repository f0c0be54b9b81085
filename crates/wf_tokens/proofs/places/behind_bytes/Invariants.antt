use Rattle.std.proofs.Common.{◌≡◌, ◌≤◌, ◌+◌, drop}
use Rattle.wf_tokens.specs.Places.{behind_bytes}
use Rattle.wf_tokens.proofs.places.behind_bytes.Given as goal

abbrev pub invariant-loop-byte : goal.invariant-loop-byte
invariant-loop-byte l = record {
  place : behind_bytes l.place (drop l.byte-index l.bytes) ≡ behind_bytes l.fn.at l.bytes;
  line : l.place.line ≤ l.fn.at.line + l.byte-index;
  col : l.place.col ≤ l.fn.at.col + l.byte-index;
}
