use Rattle.c_step_load.proofs.ScopeLemmas.{params_here, params_fresh, locals_here, locals_fresh, front_kept, names_all}
use Rattle.c_step_load.proofs.functions.scope_of.Goals as goal

pub declare_params-requires-clause-params : goal.declare_params-requires-clause-params
declare_params-requires-clause-params c = params_here c.args.front.now c.args.parts c.new-scope.result c.new-scope.result c.new-scope.result c.new-scope.ensures c.requires.parts.params

pub declare_params-requires-clause-fresh : goal.declare_params-requires-clause-fresh
declare_params-requires-clause-fresh c = params_fresh c.args.front.now c.args.parts c.new-scope.result c.new-scope.result c.new-scope.result c.new-scope.ensures c.requires.own

pub declare_locals-requires-clause-locals : goal.declare_locals-requires-clause-locals
declare_locals-requires-clause-locals c = locals_here c.args.front.now c.args.parts c.new-scope.result c.declare_params.new.scope c.declare_params.new.scope c.new-scope.ensures c.in_ok-declare_params.ensures.front c.in_ok-declare_params.ensures.names c.requires.parts.locals

pub declare_locals-requires-clause-fresh : goal.declare_locals-requires-clause-fresh
declare_locals-requires-clause-fresh c = locals_fresh c.args.front.now c.args.parts c.new-scope.result c.declare_params.new.scope c.declare_params.new.scope c.new-scope.ensures c.in_ok-declare_params.ensures.front c.in_ok-declare_params.ensures.names c.requires.own

pub returns-clause-front : goal.returns-clause-front
returns-clause-front c = front_kept c.args.front.now c.args.parts c.new-scope.result c.declare_params.new.scope c.declare_locals.new.scope c.new-scope.ensures c.in_ok-declare_params.ensures.front c.in_ok-declare_params.ensures.names c.in_ok-declare_locals.ensures.front

pub returns-clause-names : goal.returns-clause-names
returns-clause-names c = names_all c.args.front.now c.args.parts c.new-scope.result c.declare_params.new.scope c.declare_locals.new.scope c.new-scope.ensures c.in_ok-declare_params.ensures.front c.in_ok-declare_params.ensures.names c.in_ok-declare_locals.ensures.names
