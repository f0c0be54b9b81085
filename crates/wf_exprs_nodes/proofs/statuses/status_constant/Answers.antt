use Rattle.std.proofs.Common.{arith}
use Rattle.wf_exprs_nodes.proofs.Numbered.{status_is_name}
use Rattle.wf_exprs_nodes.proofs.statuses.status_constant.Goals as goal

pub put_numbered-requires : goal.put_numbered-requires
put_numbered-requires c = status_is_name c.args.n (grind arith)
