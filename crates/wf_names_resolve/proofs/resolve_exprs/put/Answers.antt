use Rattle.wf_names_resolve.proofs.Growth.{grows_expr}
use Rattle.wf_names_resolve.proofs.resolve_exprs.put.Goals as goal

pub returns-clause-grows : goal.returns-clause-grows
returns-clause-grows c = grows_expr c.args.nodes.now c.push_expr.new.self c.args.node _ c.in_ok-e.ensures.ok c.in_ok-e.ensures.tree c.in_ok-e.ensures.stmts c.in_ok-e.ensures.«package»
