use Rattle.std.proofs.Common.{ap}
use Rattle.c_text.specs.CGrammar.{is_lvalue}
use Rattle.wf_exprs.proofs.Growing.{grows_on}
use Rattle.wf_lower_stmts.specs.BodyNodes.{form_in}
use Rattle.wf_lower_stmts.proofs.HereLaws.{retell_code}
use Rattle.wf_lower_blocks.specs.Calls.{called_in, callee_in, given_in}
use Rattle.wf_lower_blocks.proofs.CallLaws.{handed_same}
use Rattle.wf_lower_blocks.proofs.calling.handed_call.Goals as goal

pub call_into-requires-clause-into : goal.call_into-requires-clause-into
call_into-requires-clause-into c = (c.in_ok-status.ensures.made.there, ap is_lvalue c.in_ok-status.ensures.made.is)

pub returns-clause-grows : goal.returns-clause-grows
returns-clause-grows c = grows_on (grows_on c.hand_on.ensures.grows c.variable.ensures.grows) c.call_into.ensures.grows

pub returns-clause-made : goal.returns-clause-made
returns-clause-made c =
    let b = c.args.b.now in
    retell_code _ _ _ c.call_into.result
    (handed_same (form_in b) (called_in c.args.what.called) (callee_in b.nodes c.args.what.called) (given_in b.nodes c.args.what.args.now) c.args.u.now _ _ c.args.k _ c.args.rest.0 _ c.variable.ensures.grows c.in_ok-rest.ensures.made c.in_ok-status.ensures.made)
    c.call_into.ensures.made
