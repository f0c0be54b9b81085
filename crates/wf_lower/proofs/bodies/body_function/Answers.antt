use Rattle.std.proofs.Common.{◌++◌, ◌∙◌, List, ap, map, subst}
use Rattle.c_text.specs.CNodes.{code_of, param_tree}
use Rattle.c_text.specs.CTree.{Code, ParamTree}
use Rattle.c_text.specs.declared.kinds.Linkage.TheVariants.{Static}
use Rattle.wf_exprs.proofs.Growing.{grows_on}
use Rattle.wf_exprs_nodes.proofs.ItemLaws.{code_kept}
use Rattle.wf_lower_stmts.specs.BodyNodes.{form_in}
use Rattle.wf_lower.specs.Bodies.{fixed_locals, own_names, touched}
use Rattle.wf_lower.specs.Made.{HasLocalTrees}
use Rattle.wf_lower.specs.Methods.{local_names, param_names, read_locals}
use Rattle.wf_lower.proofs.KeptLaws.{function_made, kept_locals, kept_params}
use Rattle.wf_lower.proofs.SharedLaws.{kept_names}
use Rattle.wf_lower.proofs.bodies.body_function.Goals as goal

pub returns-in_err-name-clause-grows : goal.returns-in_err-name-clause-grows
returns-in_err-name-clause-grows c = grows_on (grows_on (grows_on c.body_code.ensures.grows c.params_of_body.ensures.grows) c.touched.ensures.grows) c.name_of_body.ensures.grows

pub returns-clause-grows : goal.returns-clause-grows
returns-clause-grows c = grows_on (grows_on (grows_on c.body_code.ensures.grows c.params_of_body.ensures.grows) c.touched.ensures.grows) c.name_of_body.ensures.grows

pub returns-clause-made : goal.returns-clause-made
returns-clause-made c =
    let f = form_in c.args.b.now in
    let named = c.name_of_body.ensures.grows in
    let before = c.params_of_body.new.u in
    let own = (code_kept _ _ c.params_of_body.ensures.grows c.in_ok-own.ensures.made).is in
    let params = ap (map (param_tree before.names)) c.as_slice.ensures ∙ c.in_ok-params.ensures.made.are in
    let code = code_kept _ _ named c.in_ok-locals.ensures.code in
    let start = code_of before c.in_ok-own.own.0 in
    let P : Code → Type 0 = λ x. HasLocalTrees c.touched.new.u c.in_ok-locals.locals (fixed_locals f ++ read_locals f x) in
    function_made _ Static _ _ _ _ _ _ _ _ _ _ c.result_of_body.ensures c.in_ok-name.ensures.made
    (kept_params _ _ (grows_on c.touched.ensures.grows named) c.in_ok-params.ensures.made)
    (kept_locals _ _ named (subst P own c.in_ok-locals.ensures.locals))
    (record {
      there = code.there;
      is = code.is ∙ ap (λ (ps : List ParamTree). touched (param_names ps ++ local_names (fixed_locals f)) start start) params ∙ ap (λ x. touched (own_names f) x x) own;
    })

pub touched-requires-clause-names : goal.touched-requires-clause-names
touched-requires-clause-names c = kept_names _ (grows_on c.body_code.ensures.grows c.params_of_body.ensures.grows) c.requires.names

pub returns-in_err-params-clause-grows : goal.returns-in_err-params-clause-grows
returns-in_err-params-clause-grows c = grows_on c.body_code.ensures.grows c.params_of_body.ensures.grows

pub returns-in_err-locals-clause-grows : goal.returns-in_err-locals-clause-grows
returns-in_err-locals-clause-grows c = grows_on (grows_on c.body_code.ensures.grows c.params_of_body.ensures.grows) c.touched.ensures.grows
