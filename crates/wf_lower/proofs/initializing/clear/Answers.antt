use Rattle.wf_exprs.proofs.Growing.{grows_on}
use Rattle.wf_lower_stmts.proofs.HereLaws.{retell_code}
use Rattle.wf_lower.proofs.InitLaws.{call_same}
use Rattle.wf_lower.proofs.Kept.{args_kept, keeps}
use Rattle.wf_lower.proofs.initializing.clear.Goals as goal

pub call-requires-clause-call : goal.call-requires-clause-call
call-requires-clause-call c = (c.in_ok-function.ensures.made.there, (args_kept _ _ (keeps c.put_name.ensures.grows) c.in_ok-args.ensures.made).there)

pub returns-clause-grows : goal.returns-clause-grows
returns-clause-grows c = grows_on (grows_on c.cleared.ensures.grows c.put_name.ensures.grows) c.call.ensures.grows

pub returns-clause-made : goal.returns-clause-made
returns-clause-made c = retell_code _ _ _ c.call.result (call_same _ _ _ _ c.args.rest.0 c.cleared.ensures.grows c.put_name.ensures.grows c.in_ok-args.ensures.made c.in_ok-function.ensures.made c.requires) c.call.ensures.made
