use Rattle.std.proofs.Common.{◌∙◌, ap}
use Rattle.wf_exprs.specs.Words.{args}
use Rattle.wf_exprs.proofs.Growing.{grows_on, kept_name}
use Rattle.wf_exprs_nodes.proofs.ItemLaws.{code_kept, params_kept}
use Rattle.wf_lower_stmts.proofs.HereLaws.{retell_code}
use Rattle.wf_lower.specs.Bodies.{answer_in, handed}
use Rattle.wf_lower.proofs.EntryLaws.{answer_target, call_as, kept_value}
use Rattle.wf_lower.proofs.KeptLaws.{params_stay}
use Rattle.wf_lower.proofs.SharedLaws.{kept_parts}
use Rattle.wf_lower.proofs.entries.call_body.Goals as goal

pub returns-clause-grows : goal.returns-clause-grows
returns-clause-grows c = grows_on (grows_on (grows_on (grows_on c.answer_in.ensures.grows c.after_body.ensures.grows) c.name_of_body.ensures.grows) c.handed.ensures.grows) c.call.ensures.grows

pub call-requires-clause-target : goal.call-requires-clause-target
call-requires-clause-target c =
    let later = grows_on (grows_on c.after_body.ensures.grows c.name_of_body.ensures.grows) c.handed.ensures.grows in
    answer_target _ _ _ (kept_value _ _ later c.in_ok-answer.ensures.made)

pub returns-clause-made : goal.returns-clause-made
returns-clause-made c =
    let e = c.args.e.now in
    let first = grows_on (grows_on c.answer_in.ensures.grows c.after_body.ensures.grows) c.name_of_body.ensures.grows in
    let later = grows_on (grows_on c.after_body.ensures.grows c.name_of_body.ensures.grows) c.handed.ensures.grows in
    let value = (kept_value _ _ later c.in_ok-answer.ensures.made).is ∙ ap answer_in c.answers.ensures in
    let function = (kept_name _ _ c.handed.ensures.grows c.in_ok-function.ensures.made).is in
    let given = c.in_ok-args.ensures.made.is ∙ ap (λ params. args (handed params)) (params_kept _ _ first c.args.params.now c.requires.params) in
    let rest = (code_kept _ _ (grows_on c.name_of_body.ensures.grows c.handed.ensures.grows) c.in_ok-rest.ensures.made).is in
    retell_code _ _ _ c.call.result (call_as value function given rest) c.call.ensures.made

pub handed-requires : goal.handed-requires
handed-requires c =
    let first = grows_on (grows_on c.answer_in.ensures.grows c.after_body.ensures.grows) c.name_of_body.ensures.grows in
    params_stay c.args.params.now first c.requires.params

pub returns-in_err-args-clause-grows : goal.returns-in_err-args-clause-grows
returns-in_err-args-clause-grows c = grows_on (grows_on (grows_on c.answer_in.ensures.grows c.after_body.ensures.grows) c.name_of_body.ensures.grows) c.handed.ensures.grows

pub after_body-requires-clause-parts : goal.after_body-requires-clause-parts
after_body-requires-clause-parts c = kept_parts _ _ c.answer_in.ensures.grows c.requires.parts

pub returns-in_err-rest-clause-grows : goal.returns-in_err-rest-clause-grows
returns-in_err-rest-clause-grows c = grows_on c.answer_in.ensures.grows c.after_body.ensures.grows

pub returns-in_err-function-clause-grows : goal.returns-in_err-function-clause-grows
returns-in_err-function-clause-grows c = grows_on (grows_on c.answer_in.ensures.grows c.after_body.ensures.grows) c.name_of_body.ensures.grows

pub call-requires-clause-rest : goal.call-requires-clause-rest
call-requires-clause-rest c = (grows_on c.name_of_body.ensures.grows c.handed.ensures.grows).more_stmts _ c.in_ok-rest.ensures.made.there
