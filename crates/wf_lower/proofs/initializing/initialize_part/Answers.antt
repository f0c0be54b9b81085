use Rattle.wf_exprs.proofs.Growing.{grows_on, kept_expr}
use Rattle.wf_lower_stmts.proofs.HereLaws.{retell_code}
use Rattle.wf_lower.proofs.InitLaws.{call_same, one_arg}
use Rattle.wf_lower.proofs.initializing.initialize_part.Goals as goal

pub call-requires-clause-call : goal.call-requires-clause-call
call-requires-clause-call c = (c.in_ok-function.ensures.made.there, (one_arg _ _ _ _ c.in_ok-args.ensures (kept_expr _ _ c.initialize_name.ensures.grows c.in_ok-part.ensures.made)).there)

pub returns-clause-grows : goal.returns-clause-grows
returns-clause-grows c = grows_on (grows_on c.part_address.ensures.grows c.initialize_name.ensures.grows) c.call.ensures.grows

pub returns-clause-made : goal.returns-clause-made
returns-clause-made c =
    retell_code _ _ _ c.call.result
    (call_same _ _ _ _ c.args.rest.0 c.part_address.ensures.grows c.initialize_name.ensures.grows (one_arg _ _ _ _ c.in_ok-args.ensures c.in_ok-part.ensures.made) c.in_ok-function.ensures.made c.requires.rest)
    c.call.ensures.made
