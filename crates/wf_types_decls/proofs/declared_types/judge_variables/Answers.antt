use Rattle.std.proofs.Common.{◌≡◌, ◌∙◌, ◌++◌, ◌∷◌, [], refl, sym, ap, drop, map, arith}
use Rattle.std.proofs.lemmas.List.{append-nil, drop_all}
use Rattle.wf_named.specs.NamedTree.{VarTree}
use Rattle.wf_named.specs.NamedTrees.{expr_trees, var_made}
use Rattle.wf_types_rules.specs.DeclaredTypes.{declared}
use Rattle.wf_types_rules.specs.Parts.{declared_parts, variables_parts}
use Rattle.wf_types_exprs.specs.Judged.{judged}
use Rattle.wf_types_exprs.proofs.JudgedLaws.{judged-none}
use Rattle.wf_types_decls.proofs.DeclarationLemmas.{parts_next, known_next}
use Rattle.wf_types_decls.proofs.declared_types.judge_variables.Goals as goal

pub loop-variable-preserved : goal.loop-variable-preserved
loop-variable-preserved c =
    let s = c.args.here.now.around.now in
    let made = var_made c.args.here.now.nodes.now.texts (expr_trees c.args.here.now.nodes.now.exprs) in
    let xs = c.args.variables.now in
    let l = c.loop-variable in (
      parts_next made xs xs refl l.variable-index c.variable-item.result c.variable-item.result c.variable-item.is c.loop-variable-test.true s (λ (x : VarTree). declared_parts c.args.role x.of) l.found c.judge_type.new.found c.in_ok-ty.ensures.found
          ∙ l.invariant.0,
      known_next made xs xs refl l.variable-index c.variable-item.result c.variable-item.result c.variable-item.is c.loop-variable-test.true (λ (x : VarTree). declared s c.args.role x.of) l.all c.push.new.self
          (c.in_ok-push.ensures.ok ∙ ap (λ ty. l.all ++ ty ∷ []) c.in_ok-ty.ensures.of) ∙ l.invariant.1,
    )

pub returns-clause-found : goal.returns-clause-found
returns-clause-found c =
    let made = var_made c.args.here.now.nodes.now.texts (expr_trees c.args.here.now.nodes.now.exprs) in
    let l = c.loop-variable in
    let over : drop l.variable-index c.args.variables.now ≡ [] = drop_all l.variable-index c.args.variables.now (omega (arith, c.loop-variable-test.false)) in
    judged-none c.args.here.now.around.now l.found ∙ sym (ap (λ xs. judged c.args.here.now.around.now l.found (variables_parts c.args.role (map made xs))) over) ∙ l.invariant.0

pub returns-clause-of : goal.returns-clause-of
returns-clause-of c =
    let made = var_made c.args.here.now.nodes.now.texts (expr_trees c.args.here.now.nodes.now.exprs) in
    let l = c.loop-variable in
    let over : drop l.variable-index c.args.variables.now ≡ [] = drop_all l.variable-index c.args.variables.now (omega (arith, c.loop-variable-test.false)) in
    sym (append-nil l.all) ∙ sym (ap (λ xs. l.all ++ map (λ (x : VarTree). declared c.args.here.now.around.now c.args.role x.of) (map made xs)) over) ∙ l.invariant.1
