use Rattle.std.proofs.Common.{◌≡◌, [], ◌∷◌, None, Some, ap, sym, ◌∙◌}
use Rattle.std.proofs.lemmas.Result.{err_from_is_err_and}
use Rattle.wf_text.specs.declared.rules.Rule.TheVariants.{B8}
use Rattle.wf_base.specs.declared.widths.Width.TheVariants.{W64}
use Rattle.wf_ast.specs.declared.things.Thing.TheVariants as things
use Rattle.wf_ast.specs.TypedTree.{elements}
use Rattle.wf_ast.specs.TypedTrees.{optional_target, tree_of}
use Rattle.wf_ast.specs.NodeKinds.{node_slice}
use Rattle.wf_facts_exprs.specs.Claims.{claims_in}
use Rattle.wf_facts_exprs.specs.Demands.{or_else}
use Rattle.wf_facts.specs.FactLists.{without}
use Rattle.wf_bounds_stmts.specs.Requirements.{all_handed}
use Rattle.wf_bounds_stmts.specs.Targets.{answer_refusal}
use Rattle.wf_bounds_stmts.specs.Calls.{all_of}
use Rattle.wf_bounds_stmts.proofs.OutcomeLemmas.{is-fine, is-refused}
use Rattle.wf_bounds_stmts.proofs.copying.copy_out.Goals as goal

pub returns-in_err-check_answer-clause-settles : goal.returns-in_err-check_answer-clause-settles
returns-in_err-check_answer-clause-settles c =
    let r = err_from_is_err_and c.from_residual-in_err-check_answer.result c.from_residual-in_err-check_answer.ensures.1 in
    let fs = claims_in c.args.t.now c.args.facts.now.list in
    let v = tree_of c.args.t.now c.args.source in
    let p = all_handed B8 fs ((None, elements (node_slice c.args.t.now c.args.source)) ∷ []) in
    let q = answer_refusal (without (things.Arg c.args.io) fs) c.args.at (optional_target (tree_of c.args.t.now) c.args.target) (all_of W64) in
    let fine : p ≡ None =
    ap (λ it. all_handed B8 fs ((None, it) ∷ [])) (sym c.requires.source) ∙ is-fine (all_handed B8 fs ((None, v) ∷ [])) (rw c.as_known.ensures.list at (sym c.check_one.ensures ∙ c.in_ok-check_one.was)) in
    let found : q ≡ Some c.in_err-check_answer.field-0.0 =
    is-refused q c.in_err-check_answer.field-0.0 (rw (c.as_known-2.ensures.list, c.drop_mentions.ensures.claims) at (sym c.check_answer.ensures ∙ c.in_err-check_answer.was)) in
    rw (r.1, r.2) (ap (λ r. or_else r q) fine ∙ found)
