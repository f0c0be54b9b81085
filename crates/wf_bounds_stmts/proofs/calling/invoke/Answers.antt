use Rattle.std.proofs.Common.{◌≡◌, map, None, Some, ap, sym, ◌∙◌}
use Rattle.std.proofs.lemmas.Result.{err_from_is_err_and}
use Rattle.wf_text.specs.declared.rules.Rule.TheVariants.{B8}
use Rattle.wf_ast.specs.TypedTrees.{optional_target, tree_of}
use Rattle.wf_facts_exprs.specs.Claims.{claims_in}
use Rattle.wf_facts_exprs.specs.Demands.{or_else}
use Rattle.wf_bounds_stmts.specs.Requirements.{all_handed, number_type}
use Rattle.wf_bounds_stmts.specs.Targets.{answer_refusal}
use Rattle.wf_bounds_stmts.specs.Calls.{handed_to, known_to_call, left_by_call}
use Rattle.wf_bounds_stmts.proofs.OutcomeLemmas.{is-fine, is-refused}
use Rattle.wf_bounds_stmts.proofs.calling.invoke.Goals as goal

pub returns-in_err-check_answer-clause-settles : goal.returns-in_err-check_answer-clause-settles
returns-in_err-check_answer-clause-settles c =
    let r = err_from_is_err_and c.from_residual-in_err-check_answer.result c.from_residual-in_err-check_answer.ensures.1 in
    let fs = claims_in c.args.t.now c.args.facts.now.list in
    let call = c.args.call in
    let vs = map (tree_of c.args.t.now) call.args.now in
    let p = all_handed B8 (known_to_call call.keep c.args.mark fs) (handed_to (map (λ x. x.ty) c.args.taken.now) vs) in
    let q = answer_refusal (left_by_call call.keep c.args.mark vs fs) call.at (optional_target (tree_of c.args.t.now) call.target) (number_type c.args.answers) in
    let fine : p ≡ None = is-fine p (rw (c.as_known.ensures.list, c.enter_call.ensures.claims) at (sym c.check_arguments.ensures ∙ c.in_ok-check_arguments.was)) in
    let found : q ≡ Some c.in_err-check_answer.field-0.0 =
    is-refused q c.in_err-check_answer.field-0.0 (rw (c.as_known-2.ensures.list, c.leave_call.ensures.claims, c.enter_call.ensures.claims) at (sym c.check_answer.ensures ∙ c.in_err-check_answer.was)) in
    rw (r.1, r.2) (ap (λ r. or_else r q) fine ∙ found)
