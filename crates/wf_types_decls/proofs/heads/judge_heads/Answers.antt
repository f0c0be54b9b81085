use Rattle.std.proofs.Common.{◌≡◌, ◌∙◌, ◌++◌, ◌∷◌, ◌≤◌, [], sym, ap, drop, length, map, arith}
use Rattle.std.specs.List.{flat_map}
use Rattle.std.proofs.lemmas.List.{append-nil}
use Rattle.wf_named.specs.NamedParts.{named_package}
use Rattle.wf_named.specs.NamedTrees.{expr_trees, stmt_trees, method_made}
use Rattle.wf_types_exprs.specs.Judged.{judged}
use Rattle.wf_types_exprs.proofs.JudgedLaws.{judged-none}
use Rattle.wf_types_decls.specs.Packages.{head_of, head_parts}
use Rattle.wf_types_decls.proofs.DeclarationLemmas.{all_passed, parts_next, known_next}
use Rattle.wf_types_decls.proofs.heads.judge_heads.Goals as goal

pub loop-method-preserved : goal.loop-method-preserved
loop-method-preserved c =
    let n = c.args.here.now.nodes.now in
    let made = method_made n.texts (expr_trees n.exprs) (stmt_trees n.texts n.exprs n.stmts) in
    let items = c.methods-method-items.result.now in
    let l = c.loop-method in (
      parts_next made items n.methods c.methods-method-items.ensures.all l.method-index c.method-item.result c.method-item.result c.method-item.is c.loop-method-test.true c.args.here.now.around.now head_parts l.found
          c.judge_head.new.found c.in_ok-head.ensures.found ∙ l.invariant.0,
      known_next made items n.methods c.methods-method-items.ensures.all l.method-index c.method-item.result c.method-item.result c.method-item.is c.loop-method-test.true (head_of (named_package n)) l.all c.push.new.self
          (c.in_ok-push.ensures.ok ∙ ap (λ h. l.all ++ h ∷ []) c.in_ok-head.ensures.of) ∙ l.invariant.1,
    )

pub returns-clause-found : goal.returns-clause-found
returns-clause-found c =
    let n = c.args.here.now.nodes.now in
    let made = method_made n.texts (expr_trees n.exprs) (stmt_trees n.texts n.exprs n.stmts) in
    let l = c.loop-method in
    let past : length c.methods-method-items.result.now ≤ l.method-index = omega (arith, c.loop-method-test.false) in
    let over : drop l.method-index n.methods ≡ [] = all_passed c.methods-method-items.result.now n.methods l.method-index c.methods-method-items.ensures.all past in
    judged-none c.args.here.now.around.now l.found ∙ sym (ap (λ xs. judged c.args.here.now.around.now l.found (flat_map head_parts (map made xs))) over) ∙ l.invariant.0

pub returns-clause-of : goal.returns-clause-of
returns-clause-of c =
    let n = c.args.here.now.nodes.now in
    let made = method_made n.texts (expr_trees n.exprs) (stmt_trees n.texts n.exprs n.stmts) in
    let l = c.loop-method in
    let past : length c.methods-method-items.result.now ≤ l.method-index = omega (arith, c.loop-method-test.false) in
    let over : drop l.method-index n.methods ≡ [] = all_passed c.methods-method-items.result.now n.methods l.method-index c.methods-method-items.ensures.all past in
    sym (append-nil l.all) ∙ sym (ap (λ xs. l.all ++ map (head_of (named_package n)) (map made xs)) over) ∙ l.invariant.1
