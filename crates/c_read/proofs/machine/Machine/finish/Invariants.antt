use Rattle.std.proofs.Common.{◌≡◌, length}
use Rattle.c_read_grammar.specs.Feeding.{ends}
use Rattle.c_read_nodes.specs.Makers.{made, IsFit}
use Rattle.c_read.proofs.machine.Machine.finish.Given as goal

abbrev pub invariant-loop-want : goal.invariant-loop-want
invariant-loop-want l = record {
  fit : IsFit l.self.maker;
  goes_on : ends l.fn.self.wants (made l.fn.self.maker) ≡ ends l.self.wants (made l.self.maker);
}

abbrev pub decreases-loop-want : goal.decreases-loop-want
decreases-loop-want l = length l.self.wants
