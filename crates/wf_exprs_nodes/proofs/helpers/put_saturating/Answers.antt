use Rattle.std.proofs.Common.{◌∙◌, ap, map}
use Rattle.wf_base.specs.BaseTable.{bits_of}
use Rattle.c_text.specs.CNodes.{code_of, param_tree}
use Rattle.wf_exprs.specs.Exprs.{saturating_name}
use Rattle.wf_exprs.proofs.Growing.{grows_on, kept_name}
use Rattle.wf_exprs_nodes.specs.Growth.{helper_item, parameters_of}
use Rattle.wf_exprs_nodes.proofs.ItemLaws.{code_kept, helper_put}
use Rattle.wf_exprs_nodes.proofs.helpers.put_saturating.Goals as goal

pub returns : goal.returns
returns c =
    let bits = bits_of c.args.width in
    let u = c.parameters.new.u in
    let name = (kept_name _ _ (grows_on c.body.ensures.grows c.parameters.ensures.grows) c.in_ok-name.ensures.made).is in
    let body = (code_kept _ _ c.parameters.ensures.grows c.in_ok-body.ensures.made).is in
    let same = ap (λ n. helper_item bits n (map (param_tree u.names) c.in_ok-params.params) (code_of u c.in_ok-body.body.0)) name
    ∙ ap (λ ps. helper_item bits (saturating_name c.args.is_sum bits) ps (code_of u c.in_ok-body.body.0)) c.in_ok-params.ensures.made.1
    ∙ ap (helper_item bits (saturating_name c.args.is_sum bits) (parameters_of bits)) body in
    helper_put c.args.u.now _ c.put_function.new.u _ _ c.put_function.result c.is_sound.ensures (grows_on (grows_on c.saturating_name.ensures.grows c.body.ensures.grows) c.parameters.ensures.grows) same c.put_function.ensures
