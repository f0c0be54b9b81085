use Rattle.wf_lower.proofs.CallLaws.{node_called}
use Rattle.wf_lower.proofs.called.node.Goals as goal

pub returns-clause-calls : goal.returns-clause-calls
returns-clause-calls c = node_called c.args.t.now c.requires.typed c.args.s c.stmt.result.now c.requires.known c.stmt.ensures.node
