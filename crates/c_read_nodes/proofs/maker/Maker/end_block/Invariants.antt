use Rattle.std.proofs.Common.{◌≡◌, ◌<◌, length}
use Rattle.c_text.specs.CGrammar.{is_finish}
use Rattle.c_text.specs.CNodes.{code_of}
use Rattle.c_text.specs.CTree.{finish}
use Rattle.c_read_grammar.specs.Values.{collect}
use Rattle.c_read_nodes.specs.Makers.{made, IsFit}
use Rattle.c_read_nodes.proofs.maker.Maker.end_block.Given as goal

abbrev pub invariant-loop-self : goal.invariant-loop-self
invariant-loop-self l = record {
  fit : IsFit l.self;
  below : l.code.0 < length l.self.unit.stmts;
  empty : l.is_empty ≡ is_finish (code_of l.self.unit l.code.0);
  collected : collect (code_of l.self.unit l.code.0) (made l.self) ≡ collect finish (made l.fn.self);
}

abbrev pub decreases-loop-self : goal.decreases-loop-self
decreases-loop-self l = length l.self.values
