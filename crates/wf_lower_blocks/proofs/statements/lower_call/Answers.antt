use Rattle.std.proofs.Common.{◌&&◌}
use Rattle.c_text.specs.CNodes.{code_of}
use Rattle.wf_ast.proofs.Arena.{both_true}
use Rattle.wf_lower_stmts.specs.BodyNodes.{form_in, is_target, point_at}
use Rattle.wf_lower_blocks.specs.Calls.{are_given, is_called}
use Rattle.wf_lower_blocks.proofs.ComesLaws.{await_done, callee_there, hand_on_done, invoke_done}
use Rattle.wf_lower_blocks.proofs.statements.lower_call.Goals as goal

pub returns-in-Await-clause-made : goal.returns-in-Await-clause-made
returns-in-Await-clause-made c =
    await_done c.args.b.now.nodes (form_in c.args.b.now) (code_of c.args.u.now c.args.rest.0) _ c.args.made _ c.lower_awaited.result c.in-Await.it c.number.result c.number.ensures.is c.in-Await.is c.lower_awaited.ensures.made

pub returns-in-HandOn-clause-made : goal.returns-in-HandOn-clause-made
returns-in-HandOn-clause-made c =
    let nodes = c.args.b.now.nodes in
    let what = c.in-HandOn.what in
    let known = (both_true (is_called nodes what.called) (are_given nodes what.args.now) (rw c.in-HandOn.is at c.requires.fits)).0 in
    hand_on_done nodes (form_in c.args.b.now) (code_of c.args.u.now c.args.rest.0) _ c.args.made _ c.lower_handed.result what c.number-in-HandOn.result (callee_there nodes c.typed-typed.ensures.kept what.called known) c.number-in-HandOn.ensures.is c.in-HandOn.is c.lower_handed.ensures.made

pub returns-in-Invoke-clause-made : goal.returns-in-Invoke-clause-made
returns-in-Invoke-clause-made c =
    let nodes = c.args.b.now.nodes in
    let what = c.in-Invoke.what in
    let given = (both_true (is_target nodes c.in-Invoke.target) (is_called nodes what.called && are_given nodes what.args.now) (rw c.in-Invoke.is at c.requires.fits)).1 in
    let known = (both_true (is_called nodes what.called) (are_given nodes what.args.now) given).0 in
    invoke_done nodes (form_in c.args.b.now) (code_of c.args.u.now c.args.rest.0) c.plain_call.new.u c.args.made (point_at c.args.b.now.numbers c.args.s.0) c.plain_call.result what c.in-Invoke.target (callee_there nodes c.typed-typed.ensures.kept what.called known) c.in-Invoke.is c.plain_call.ensures.made
