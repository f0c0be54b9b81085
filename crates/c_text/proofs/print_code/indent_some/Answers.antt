use Rattle.std.proofs.Common.{subst}
use Rattle.c_text.proofs.Indents.{few_spaces}
use Rattle.c_text.proofs.print_code.indent_some.Goals as goal

pub returns-clause-writes : goal.returns-clause-writes
returns-clause-writes g c = subst (λ bytes. g.P.Pen.writes c.args.pen.now c.write.new.self bytes) (few_spaces c.args.depth c.requires.few) c.write.ensures.writes
