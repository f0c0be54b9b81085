use Rattle.std.proofs.Common.{sym}
use Rattle.wf_ast.specs.NodeKinds.{node_status}
use Rattle.c_text.specs.CNodes.{code_of}
use Rattle.wf_lower_stmts.specs.BodyNodes.{form_in}
use Rattle.wf_lower_stmts.proofs.HereLaws.{retell_code}
use Rattle.wf_lower_blocks.proofs.ReturnLaws.{asked_is, unasked_is}
use Rattle.wf_lower_blocks.proofs.returning.give_variable.Goals as goal

pub returns-then-is_coroutine-clause-made : goal.returns-then-is_coroutine-clause-made
returns-then-is_coroutine-clause-made c =
    retell_code _ _ _ c.give_asked.result
    (asked_is (form_in c.args.b.now) (node_status c.args.b.now.nodes c.args.e) (code_of c.args.u.now c.args.rest.0) c.requires.variable (sym c.if-is_coroutine.ensures))
    c.give_asked.ensures.made

pub returns-else-is_coroutine-clause-made : goal.returns-else-is_coroutine-clause-made
returns-else-is_coroutine-clause-made c =
    retell_code _ _ _ c.give_held.result
    (unasked_is (form_in c.args.b.now) (node_status c.args.b.now.nodes c.args.e) (code_of c.args.u.now c.args.rest.0) c.requires.variable (sym c.if-is_coroutine.ensures))
    c.give_held.ensures.made
