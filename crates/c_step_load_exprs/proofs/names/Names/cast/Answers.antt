use Rattle.c_text.specs.CNodes.{type_in}
use Rattle.c_form_exprs.specs.TypeViews.{value_in}
use Rattle.c_step_load_exprs.proofs.NameLemmas.{cast_here}
use Rattle.c_step_load_exprs.proofs.names.Names.cast.Goals as goal

pub returns : goal.returns
returns c = cast_here c.args.self.now.scope.now c.args.self.now.numbers.now c.requires.knows (type_in c.args.self.now.scope.now.front.nodes.names c.args.to) (value_in c.args.self.now.scope.now.front.nodes.names c.args.of) c.cast.result c.cast.ensures
