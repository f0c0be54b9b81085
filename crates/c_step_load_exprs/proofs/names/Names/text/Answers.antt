use Rattle.c_step_load_exprs.proofs.NameLemmas.{text_here}
use Rattle.c_step_load_exprs.proofs.names.Names.text.Goals as goal

pub text-requires : goal.text-requires
text-requires c = rw c.requires.knows.same c.requires.name

pub returns : goal.returns
returns c = text_here c.args.self.now.scope.now c.args.self.now.numbers.now c.requires.knows c.args.name.0 c.text.result c.text.ensures
