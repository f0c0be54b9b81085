use Rattle.std.proofs.Common.{◌∙◌, ap}
use Rattle.wf_named.specs.NamedTrees.{expr_trees, const_made}
use Rattle.wf_types_rules.specs.DeclaredTypes.{constant_with}
use Rattle.wf_types_decls.proofs.DeclarationLemmas.{constant_judged, constant_known}
use Rattle.wf_types_decls.proofs.declarations.judge_const.Goals as goal

pub returns-clause-found : goal.returns-clause-found
returns-clause-found c =
    let v = c.in_ok-v.v in
    c.tell_constant.ensures
    ∙ constant_judged c.args.here.now.around.now c.args.found.now c.judge_type.new.found c.judge_value.new.found (const_made c.args.here.now.nodes.now.texts (expr_trees c.args.here.now.nodes.now.exprs) c.args.constant.now) c.in_ok-ty.ty v
    c.in_ok-ty.ensures.of c.in_ok-v.ensures.value c.in_ok-ty.ensures.found c.in_ok-v.ensures.found

pub returns-clause-of : goal.returns-clause-of
returns-clause-of c =
    constant_known c.args.here.now.around.now (const_made c.args.here.now.nodes.now.texts (expr_trees c.args.here.now.nodes.now.exprs) c.args.constant.now) c.in_ok-ty.ty c.in_ok-v.v c.constant_with.result
    (c.constant_with.ensures ∙ ap (constant_with c.in_ok-ty.ty) c.number_in.ensures) c.in_ok-ty.ensures.of c.in_ok-v.ensures.value
