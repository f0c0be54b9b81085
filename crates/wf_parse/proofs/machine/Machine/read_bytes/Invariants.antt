use Rattle.std.proofs.Common.{◌≡◌, ◌≤◌, ◌+◌, ◌*◌, length}
use Rattle.wf_tokens.specs.Spelling.{left}
use Rattle.wf_parse_nodes.specs.Makers.{nodes, IsSound}
use Rattle.wf_parse.specs.Machines.{size, state_of}
use Rattle.wf_parse.proofs.FileReading.{ReadSoFar}
use Rattle.wf_parse.proofs.machine.Machine.read_bytes.Given as goal

abbrev pub invariant-loop-tokens : goal.invariant-loop-tokens
invariant-loop-tokens l = record {
  sound : IsSound l.self.maker;
  read : ReadSoFar l.number l.fn.most l.bytes l.fn.self.maker.package l.tokens l.self.maker.package.texts l.most (state_of l.self);
  named : l.self.maker.package.name ≡ l.fn.self.maker.package.name;
  texts : length l.self.maker.package.texts + left l.tokens ≤ length l.fn.self.maker.package.texts + 2 * length l.bytes;
  size : size l.self + 32 * left l.tokens ≤ nodes l.fn.self.maker + 2 + 64 * length l.bytes;
}

abbrev pub decreases-loop-tokens : goal.decreases-loop-tokens
decreases-loop-tokens l = left l.tokens
