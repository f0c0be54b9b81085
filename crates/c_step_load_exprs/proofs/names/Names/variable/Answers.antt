use Rattle.c_text.specs.CNodes.{bytes_at}
use Rattle.c_step_load_exprs.proofs.NameLemmas.{variable_here}
use Rattle.c_step_load_exprs.proofs.names.Names.variable.Goals as goal

pub returns : goal.returns
returns c = variable_here c.args.self.now.scope.now c.args.self.now.numbers.now c.requires.knows (bytes_at c.args.self.now.scope.now.front.nodes.names c.args.name.0) c.variable.result c.variable.ensures
