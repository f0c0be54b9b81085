use Rattle.c_text.specs.CNodes.{made_code, code_of, expr_of}
use Rattle.wf_exprs_nodes.proofs.ItemLaws.{stmt_grows, stmt_made}
use Rattle.wf_exprs_nodes.proofs.helpers.put_stmt.Goals as goal

pub returns-clause-grows : goal.returns-clause-grows
returns-clause-grows c = stmt_grows c.args.u.now c.add_stmt.new.self c.args.x (made_code c.args.u.now.names (expr_of c.args.u.now) (code_of c.args.u.now) c.args.x) c.add_stmt.result c.is_sound.ensures c.add_stmt.ensures.ok c.add_stmt.ensures.err

pub returns-clause-made : goal.returns-clause-made
returns-clause-made c = stmt_made c.args.u.now c.add_stmt.new.self c.args.x (made_code c.args.u.now.names (expr_of c.args.u.now) (code_of c.args.u.now) c.args.x) c.add_stmt.result c.add_stmt.ensures.ok
