use Rattle.std.proofs.Common.{arith}
use Rattle.wf_lower_stmts.proofs.WordLaws.{again_is_name}
use Rattle.wf_lower_stmts.proofs.spelling.again_label.Goals as goal

pub put_numbered-requires : goal.put_numbered-requires
put_numbered-requires c = again_is_name c.args.w (grind arith)
