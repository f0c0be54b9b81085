use Rattle.wf_names_resolve.proofs.Growth.{grows_stmt}
use Rattle.wf_names_resolve.proofs.resolve_stmts.put.Goals as goal

pub returns-clause-grows : goal.returns-clause-grows
returns-clause-grows c = grows_stmt c.args.nodes.now c.push_stmt.new.self _ _ c.in_ok-s.ensures.ok c.in_ok-s.ensures.tree c.in_ok-s.ensures.«package»
