use Rattle.wf_exprs.proofs.Growing.{grows_on}
use Rattle.wf_lower_stmts.specs.BodyNodes.{form_in}
use Rattle.wf_lower_stmts.proofs.HereLaws.{retell_code}
use Rattle.wf_lower_blocks.specs.Calls.{called_in, callee_in, given_in}
use Rattle.wf_lower_blocks.proofs.CallLaws.{into_same, taker_kept}
use Rattle.wf_lower_blocks.proofs.calling.call_into.Goals as goal

pub call_with-requires-clause-into : goal.call_with-requires-clause-into
call_with-requires-clause-into c = taker_kept _ _ c.args.into c.get_places.ensures.grows c.requires.into

pub returns-clause-grows : goal.returns-clause-grows
returns-clause-grows c = grows_on (grows_on c.get_places.ensures.grows c.call_with.ensures.grows) c.put_places.ensures.grows

pub returns-clause-made : goal.returns-clause-made
returns-clause-made c =
    let b = c.args.b.now in
    retell_code _ _ _ c.put_places.result
    (into_same (form_in b) (called_in c.args.what.called) (callee_in b.nodes c.args.what.called) (given_in b.nodes c.args.what.args.now) _ _ _ c.args.into _ _ _ c.get_places.ensures.grows c.requires.into
    c.in_ok-rest.ensures.made.is c.in_ok-rest-2.ensures.made.is)
    c.put_places.ensures.made
