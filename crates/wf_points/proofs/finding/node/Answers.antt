use Rattle.wf_points.proofs.PointLemmas.{node_points}
use Rattle.wf_points.proofs.finding.node.Goals as goal

pub returns-clause-points : goal.returns-clause-points
returns-clause-points c = node_points c.args.t.now c.requires.typed c.args.s c.stmt.result.now c.requires.known c.stmt.ensures.node
