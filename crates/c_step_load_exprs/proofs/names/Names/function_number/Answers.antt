use Rattle.c_step_load_exprs.proofs.NameLemmas.{number_here}
use Rattle.c_step_load_exprs.proofs.names.Names.function_number.Goals as goal

pub function-requires : goal.function-requires
function-requires c = rw c.requires.knows.same c.requires.name

pub returns : goal.returns
returns c = number_here c.args.self.now.scope.now c.args.self.now.numbers.now c.requires.knows c.args.name.0 c.function.result c.function.ensures
