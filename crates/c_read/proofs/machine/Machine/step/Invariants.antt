use Rattle.std.proofs.Common.{◌≡◌, length}
use Rattle.c_read_grammar.specs.Feeding.{feed}
use Rattle.c_read_tokens.specs.Kinds.{token_of}
use Rattle.c_read_nodes.specs.Makers.{made, IsFit}
use Rattle.c_read.proofs.machine.Machine.step.Given as goal

abbrev pub invariant-loop-want : goal.invariant-loop-want
invariant-loop-want l = record {
  fit : IsFit l.self.maker;
  goes_on : feed l.fn.self.wants (made l.fn.self.maker) (token_of l.kind l.text) ≡ feed l.self.wants (made l.self.maker) (token_of l.kind l.text);
}

abbrev pub decreases-loop-want : goal.decreases-loop-want
decreases-loop-want l = length l.self.wants
