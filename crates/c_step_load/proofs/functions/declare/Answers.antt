use Rattle.c_text.specs.CNodes.{bytes_at}
use Rattle.c_step_load.proofs.ScopeLemmas.{declared_new, declared_front, declared_names}
use Rattle.c_step_load.proofs.functions.declare.Goals as goal

pub returns-clause-front : goal.returns-clause-front
returns-clause-front c =
    let name = bytes_at c.args.scope.now.front.nodes.names c.args.name.0 in
    declared_front c.args.scope.now c.declare.new.self name c.args.kind (declared_new c.args.scope.now c.declare.new.self name c.args.kind c.in_ok-declare.field-0 c.requires.fresh c.in_ok-declare.ensures.fresh c.in_ok-declare.ensures.added)

pub returns-clause-names : goal.returns-clause-names
returns-clause-names c =
    let name = bytes_at c.args.scope.now.front.nodes.names c.args.name.0 in
    declared_names c.args.scope.now c.declare.new.self name c.args.kind (declared_new c.args.scope.now c.declare.new.self name c.args.kind c.in_ok-declare.field-0 c.requires.fresh c.in_ok-declare.ensures.fresh c.in_ok-declare.ensures.added)
