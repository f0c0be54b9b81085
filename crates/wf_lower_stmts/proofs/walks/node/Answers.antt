use Rattle.wf_lower_stmts.proofs.StandLaws.{node_stands}
use Rattle.wf_lower_stmts.proofs.walks.node.Goals as goal

pub returns-clause-stands : goal.returns-clause-stands
returns-clause-stands c = node_stands c.args.t.now c.requires.typed c.args.sought c.args.s c.stmt.result.now c.requires.known c.stmt.ensures.node
