use Rattle.wf_exprs.proofs.Growing.{put_grows, put_made}
use Rattle.wf_exprs.proofs.nodes.put.Goals as goal

pub returns-clause-grows : goal.returns-clause-grows
returns-clause-grows c = put_grows c.args.u.now c.share_expr.new.self c.args.x c.share_expr.result c.is_sound.ensures c.share_expr.ensures.ok c.share_expr.ensures.err

pub returns-clause-made : goal.returns-clause-made
returns-clause-made c = put_made c.args.u.now c.share_expr.new.self c.args.x c.share_expr.result c.share_expr.ensures.ok
