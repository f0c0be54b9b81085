use Rattle.wf_mean_runs.proofs.BlockLaws.{node_made}
use Rattle.wf_mean_runs.proofs.running.node.Goals as goal

pub returns-clause-made : goal.returns-clause-made
returns-clause-made c = node_made c.args.t.now c.requires.typed c.args.s c.stmt.result.now c.stmt.ensures.node
