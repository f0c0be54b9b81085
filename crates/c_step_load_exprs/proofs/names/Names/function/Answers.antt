use Rattle.c_text.specs.CNodes.{bytes_at}
use Rattle.c_step_load_exprs.proofs.NameLemmas.{function_here}
use Rattle.c_step_load_exprs.proofs.names.Names.function.Goals as goal

pub returns : goal.returns
returns c = function_here c.args.self.now.scope.now c.args.self.now.numbers.now c.requires.knows (bytes_at c.args.self.now.scope.now.front.nodes.names c.args.name.0) c.function.result c.function.ensures
