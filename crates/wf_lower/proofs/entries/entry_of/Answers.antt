use Rattle.std.proofs.Common.{◌∙◌, ap, map, subst}
use Rattle.wf_text.specs.Surface.{AnswerKind}
use Rattle.c_text.specs.CNodes.{param_tree}
use Rattle.c_text.specs.declared.kinds.Linkage.TheVariants.{External}
use Rattle.wf_exprs.proofs.Growing.{grows_on}
use Rattle.wf_exprs_nodes.proofs.ItemLaws.{code_kept}
use Rattle.wf_lower.specs.Bodies.{answer_locals, table}
use Rattle.wf_lower.specs.Made.{HasLocalTrees}
use Rattle.wf_lower.specs.Methods.{body_call, method_in}
use Rattle.wf_lower.proofs.KeptLaws.{function_made, kept_locals, kept_params}
use Rattle.wf_lower.proofs.SharedLaws.{kept_parts}
use Rattle.wf_lower.proofs.entries.entry_of.Goals as goal

pub returns-clause-grows : goal.returns-clause-grows
returns-clause-grows c = grows_on (grows_on (grows_on c.params_of_entry.ensures.grows c.entry_code.ensures.grows) c.answer_locals.ensures.grows) c.name_of_entry.ensures.grows

pub returns-clause-made : goal.returns-clause-made
returns-clause-made c =
    let e = c.args.e.now in
    let named = c.name_of_entry.ensures.grows in
    let declared = grows_on c.answer_locals.ensures.grows named in
    let P : AnswerKind → Type 0 = λ kind. HasLocalTrees c.answer_locals.new.u c.in_ok-locals.locals (answer_locals kind) in
    let code = code_kept _ _ declared c.in_ok-body.ensures.made in
    function_made _ External _ _ _ _ _ _ _ _ _ _ c.result_of_entry.ensures c.in_ok-name.ensures.made
    (kept_params _ _ (grows_on c.entry_code.ensures.grows declared) c.in_ok-params.ensures.made)
    (kept_locals _ _ named (subst P c.answers.ensures c.in_ok-locals.ensures.made))
    (record { there = code.there; is = code.is ∙ ap (λ params. table e.number (method_in e) (body_call e params)) (ap (map (param_tree c.params_of_entry.new.u.names)) c.as_slice.ensures ∙ c.in_ok-params.ensures.made.are) })

pub returns-in_err-name-clause-grows : goal.returns-in_err-name-clause-grows
returns-in_err-name-clause-grows c = grows_on (grows_on (grows_on c.params_of_entry.ensures.grows c.entry_code.ensures.grows) c.answer_locals.ensures.grows) c.name_of_entry.ensures.grows

pub entry_code-requires-clause-parts : goal.entry_code-requires-clause-parts
entry_code-requires-clause-parts c = kept_parts _ _ c.params_of_entry.ensures.grows c.requires

pub returns-in_err-body-clause-grows : goal.returns-in_err-body-clause-grows
returns-in_err-body-clause-grows c = grows_on c.params_of_entry.ensures.grows c.entry_code.ensures.grows

pub returns-in_err-locals-clause-grows : goal.returns-in_err-locals-clause-grows
returns-in_err-locals-clause-grows c = grows_on (grows_on c.params_of_entry.ensures.grows c.entry_code.ensures.grows) c.answer_locals.ensures.grows
