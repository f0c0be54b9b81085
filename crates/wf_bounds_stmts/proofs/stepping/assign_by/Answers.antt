use Rattle.std.proofs.Common.{◌≡◌, None, Some, ap, sym, ◌∙◌}
use Rattle.std.proofs.lemmas.Result.{err_from_is_err_and}
use Rattle.wf_ast.specs.TypedTrees.{num_in, target_of, tree_of}
use Rattle.wf_facts_exprs.specs.Claims.{claims_in}
use Rattle.wf_bounds_stmts.specs.Targets.{assign_refusal, number_written, without_some, written_by}
use Rattle.wf_bounds_stmts.specs.Nodes.{number_variable, step_in, stepped_or_dropped}
use Rattle.wf_bounds_stmts.proofs.OutcomeLemmas.{is-fine, is-refused}
use Rattle.wf_bounds_stmts.proofs.StepLemmas.{stepped-by}
use Rattle.wf_bounds_stmts.proofs.stepping.assign_by.Goals as goal

pub returns-in_err-check_assigned-clause-settles : goal.returns-in_err-check_assigned-clause-settles
returns-in_err-check_assigned-clause-settles c =
    let r = err_from_is_err_and c.from_residual.result c.from_residual.ensures.1 in
    λ op.
    let fs = claims_in c.args.t.now c.args.facts.now.list in
    let p = assign_refusal fs (target_of (tree_of c.args.t.now c.args.target)) (tree_of c.args.t.now c.args.value) in
    rw (r.1, r.2) (is-refused p c.in_err-check_assigned.field-0.0 (rw c.as_known.ensures.list at (sym c.check_assigned.ensures ∙ c.in_err-check_assigned.was)))

pub returns-in-Some-clause-settles : goal.returns-in-Some-clause-settles
returns-in-Some-clause-settles c = λ op.
    let fs = claims_in c.args.t.now c.args.facts.now.list in
    let w = tree_of c.args.t.now c.args.target in
    let v = tree_of c.args.t.now c.args.value in
    let x = c.written-x.result in
    let p = assign_refusal fs (target_of w) v in
    let variable : number_written (target_of w) ≡ Some c.in-Some.x =
    c.written-x.ensures.seen.variable ∙ ap (λ ty. number_variable ty x) (sym c.type_of.ensures) ∙ sym c.number_variable.ensures ∙ c.in-Some.is in
    let stands = stepped-by fs w v op ∙ ap (λ y. stepped_or_dropped fs y (written_by (target_of w)) (step_in (num_in w) v)) variable in
    (is-fine p (rw c.as_known.ensures.list at (sym c.check_assigned.ensures ∙ c.in_ok-check_assigned.was)), c.step_variable.ensures.claims ∙ sym stands)

pub returns-in-None-clause-settles : goal.returns-in-None-clause-settles
returns-in-None-clause-settles c = λ op.
    let fs = claims_in c.args.t.now c.args.facts.now.list in
    let w = tree_of c.args.t.now c.args.target in
    let v = tree_of c.args.t.now c.args.value in
    let x = c.written-x.result in
    let p = assign_refusal fs (target_of w) v in
    let variable : number_written (target_of w) ≡ None =
    c.written-x.ensures.seen.variable ∙ ap (λ ty. number_variable ty x) (sym c.type_of.ensures) ∙ sym c.number_variable.ensures ∙ c.in-None.is in
    let stands =
    stepped-by fs w v op ∙ ap (λ y. stepped_or_dropped fs y (written_by (target_of w)) (step_in (num_in w) v)) variable ∙ ap (λ y. without_some y fs) c.written-x.ensures.seen.thing in
    (is-fine p (rw c.as_known.ensures.list at (sym c.check_assigned.ensures ∙ c.in_ok-check_assigned.was)), c.drop_written.ensures.claims ∙ sym stands)
