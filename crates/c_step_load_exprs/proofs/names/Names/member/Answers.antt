use Rattle.std.specs.Option.{option_map}
use Rattle.c_text.specs.CNodes.{bytes_at}
use Rattle.c_form_exprs.specs.TypeViews.{value_in}
use Rattle.c_step_load_exprs.proofs.NameLemmas.{member_here}
use Rattle.c_step_load_exprs.proofs.names.Names.member.Goals as goal

pub returns : goal.returns
returns c = member_here c.args.self.now.scope.now c.args.self.now.numbers.now c.requires.knows (bytes_at c.args.self.now.scope.now.front.nodes.names c.args.field.0) (option_map (value_in c.args.self.now.scope.now.front.nodes.names) c.args.of) c.member.result c.member.ensures
