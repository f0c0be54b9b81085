use Rattle.wf_exprs.proofs.Growing.{grows_on}
use Rattle.wf_lower_stmts.specs.BodyNodes.{form_in, target_in}
use Rattle.wf_lower_stmts.specs.Statements.{is_wanted}
use Rattle.wf_lower_stmts.proofs.HereLaws.{retell_code}
use Rattle.wf_lower_blocks.specs.Calls.{called_in, callee_in, given_in}
use Rattle.wf_lower_blocks.proofs.CallLaws.{kept_target, plain_same, taker_is_target, taker_kept, taken_local}
use Rattle.wf_lower_blocks.proofs.calling.plain_call.Goals as goal

pub put_result-requires-clause-answer : goal.put_result-requires-clause-answer
put_result-requires-clause-answer c = c.in_ok-answer.ensures.made.there

pub call_into-requires-clause-into : goal.call_into-requires-clause-into
call_into-requires-clause-into c =
    kept_target _ (is_wanted (target_in c.args.b.now.nodes c.args.target)) c.kept_answer.result c.in_ok-answer.answer (c.kept_answer.ensures c.args.b.now.nodes)
    (taker_kept _ _ c.in_ok-answer.answer c.put_result.ensures.grows (taker_is_target _ c.in_ok-answer.answer c.taker_of-taker.result c.in_ok-answer.ensures.made))

pub returns-clause-grows : goal.returns-clause-grows
returns-clause-grows c = grows_on (grows_on c.local_of.ensures.grows c.put_result.ensures.grows) c.call_into.ensures.grows

pub returns-clause-made : goal.returns-clause-made
returns-clause-made c =
    let b = c.args.b.now in
    retell_code _ _ _ c.call_into.result
    (plain_same (form_in b) (called_in c.args.what.called) (callee_in b.nodes c.args.what.called) (given_in b.nodes c.args.what.args.now) (target_in b.nodes c.args.target) c.args.u.now _ _ c.in_ok-answer.answer c.kept_answer.result _ c.args.rest.0 _
    c.local_of.ensures.grows c.put_result.ensures.grows c.requires.rest c.in_ok-answer.ensures.made
    (taken_local _ b.nodes c.typed.ensures.same c.typed.ensures.kept c.args.what.called _ _ c.method.ensures c.method-2.ensures c.taker_of-taker.result c.taker_of-taker.ensures)
    (c.kept_answer.ensures b.nodes) c.in_ok-rest.ensures.made.is)
    c.call_into.ensures.made
