use Rattle.std.proofs.Common.{◌∙◌, ◌∷◌, List, [], ap, map, refl, sym, subst}
use Rattle.wf_ast.specs.TypedPackage.{package_of, variable_of}
use Rattle.c_text.specs.declared.nodes.CParam.{CParam}
use Rattle.c_meaning.specs.UnitForm.{args_params}
use Rattle.wf_exprs.specs.Scopes.{are_named}
use Rattle.wf_lower_stmts.proofs.WordLaws.{spelt_known}
use Rattle.wf_lower.specs.Bodies.{public_args}
use Rattle.wf_lower.specs.Made.{HasParamTrees, receiver_param}
use Rattle.wf_lower.proofs.Kept.{params_as, params_pushed}
use Rattle.wf_lower.proofs.Known.{args_named}
use Rattle.wf_lower.proofs.declaring.params_of.Goals as goal

pub self_param-requires-clause-known : goal.self_param-requires-clause-known
self_param-requires-clause-known c = spelt_known c.args.t.now c.args.m.now c.requires.spelt

pub add_args-requires : goal.add_args-requires
add_args-requires c = ap (are_named c.args.t.now) c.as_slice.ensures ∙ args_named c.args.t.now c.args.m.now c.requires.spelt

pub returns-clause-made : goal.returns-clause-made
returns-clause-made c =
    let nodes = c.args.t.now in
    let u = c.self_param.new.u in
    let P : List CParam → Type 0 = λ ps. HasParamTrees u ps [] in
    let Q : List CParam → Type 0 = λ ps. HasParamTrees u ps (receiver_param (package_of nodes) c.args.m.now.of.0 ∷ []) in
    let none : HasParamTrees u c.new-params.result [] = subst P (sym c.new-params.ensures) (record { there = tt; are = refl }) in
    let first = subst Q (sym c.in_ok-push.ensures.ok) (params_pushed u none c.in_ok-receiver.ensures.made) in
    params_as (ap (λ xs. receiver_param (package_of nodes) c.args.m.now.of.0 ∷ args_params (public_args (map (variable_of nodes) xs))) c.as_slice.ensures) (c.in_ok-add_args.ensures.made _ first)
