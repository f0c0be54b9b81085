use Rattle.c_step_load_exprs.proofs.NameLemmas.{param_has}
use Rattle.c_step_load_exprs.proofs.names.Names.is_given.Goals as goal

pub is_passed-requires-clause-param : goal.is_passed-requires-clause-param
is_passed-requires-clause-param c = param_has c.args.self.now.scope.now.front.nodes c.args.params.now c.args.i c.if-i-params.true c.requires.params
