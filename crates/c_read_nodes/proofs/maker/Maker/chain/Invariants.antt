use Rattle.std.proofs.Common.{◌≡◌, length}
use Rattle.c_text.specs.CTree.{finish}
use Rattle.c_read_grammar.specs.Values.{chain}
use Rattle.c_read_nodes.specs.Makers.{made, IsFit}
use Rattle.c_read_nodes.specs.Statements.{code_with, StatementFits}
use Rattle.c_read_nodes.specs.declared.statements.Statement.TheVariants as says
use Rattle.c_read_nodes.proofs.maker.Maker.chain.Given as goal

abbrev pub invariant-loop-self : goal.invariant-loop-self
invariant-loop-self l = record {
  fit : IsFit l.self;
  parts : StatementFits l.self.unit (says.If l.later);
  chained : chain (code_with l.self.unit (says.If l.later) finish) (made l.self) ≡ chain (code_with l.fn.self.unit (says.If l.fn.last) finish) (made l.fn.self);
}

abbrev pub decreases-loop-self : goal.decreases-loop-self
decreases-loop-self l = length l.self.values
