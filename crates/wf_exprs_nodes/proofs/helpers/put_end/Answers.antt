use Rattle.c_text.specs.declared.nodes.CStmt.TheVariants as stmt
use Rattle.wf_exprs_nodes.proofs.ItemLaws.{shared_grows, shared_made}
use Rattle.wf_exprs_nodes.proofs.helpers.put_end.Goals as goal

pub returns-clause-grows : goal.returns-clause-grows
returns-clause-grows c = shared_grows c.args.u.now c.share_end.new.self stmt.End c.share_end.result c.is_sound.ensures c.share_end.ensures.ok c.share_end.ensures.err

pub returns-clause-made : goal.returns-clause-made
returns-clause-made c = shared_made c.args.u.now c.share_end.new.self stmt.End c.share_end.result c.share_end.ensures.ok
