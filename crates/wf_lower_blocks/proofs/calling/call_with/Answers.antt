use Rattle.wf_exprs.proofs.Growing.{grows_on}
use Rattle.wf_lower_stmts.proofs.HereLaws.{retell_code}
use Rattle.wf_lower_blocks.proofs.CallLaws.{call_same, given_kept, taker_kept}
use Rattle.wf_lower_blocks.proofs.calling.call_with.Goals as goal

pub call-requires-clause-target : goal.call-requires-clause-target
call-requires-clause-target c = taker_kept _ _ c.args.into (grows_on c.passed.ensures.grows c.callee_name.ensures.grows) c.requires.into

pub call-requires-clause-call : goal.call-requires-clause-call
call-requires-clause-call c = (c.in_ok-function.ensures.made.there, (given_kept _ _ _ _ c.callee_name.ensures.grows c.in_ok-args.ensures.made).fits)

pub returns-clause-grows : goal.returns-clause-grows
returns-clause-grows c = grows_on (grows_on c.passed.ensures.grows c.callee_name.ensures.grows) c.call.ensures.grows

pub returns-clause-made : goal.returns-clause-made
returns-clause-made c =
    retell_code _ _ _ c.call.result
    (call_same _ _ _ c.args.into _ _ _ _ _ c.passed.ensures.grows c.callee_name.ensures.grows c.requires.into c.in_ok-function.ensures.made c.in_ok-args.ensures.made c.requires.rest)
    c.call.ensures.made
