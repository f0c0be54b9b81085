use Rattle.std.proofs.Common.{◌≤◌, length}
use Rattle.c_read_grammar.specs.Progress.{ReadSoFar}
use Rattle.c_read.specs.Machines.{state_of}
use Rattle.c_read_nodes.specs.Makers.{IsFit}
use Rattle.c_read.proofs.machine.Machine.read_body.Given as goal

abbrev pub invariant-loop-ending : goal.invariant-loop-ending
invariant-loop-ending l = record {
  fit : IsFit l.self.maker;
  few : l.depth ≤ 512;
  short : length l.rest ≤ length l.fn.body;
  so_far : ReadSoFar l.fn.body l.rest (state_of l.self) l.depth;
}

abbrev pub decreases-loop-ending : goal.decreases-loop-ending
decreases-loop-ending l = length l.rest
