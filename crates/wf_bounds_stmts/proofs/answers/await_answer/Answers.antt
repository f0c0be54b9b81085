use Rattle.std.proofs.Common.{sym, ◌∙◌}
use Rattle.std.proofs.lemmas.Result.{err_from_is_err_and}
use Rattle.wf_ast.specs.TypedTrees.{optional_target, tree_of}
use Rattle.wf_facts_exprs.specs.Claims.{claims_in}
use Rattle.wf_bounds_stmts.specs.Requirements.{number_type}
use Rattle.wf_bounds_stmts.specs.Targets.{answer_refusal}
use Rattle.wf_bounds_stmts.specs.Calls.{interrupted}
use Rattle.wf_bounds_stmts.proofs.OutcomeLemmas.{is-refused}
use Rattle.wf_bounds_stmts.proofs.answers.await_answer.Goals as goal

pub returns-in_err-check_answer-clause-settles : goal.returns-in_err-check_answer-clause-settles
returns-in_err-check_answer-clause-settles c =
    let r = err_from_is_err_and c.from_residual.result c.from_residual.ensures.1 in
    rw (r.1, r.2) (is-refused (answer_refusal (interrupted (claims_in c.args.t.now c.args.facts.now.list)) c.args.at (optional_target (tree_of c.args.t.now) c.args.target) (number_type c.args.answers)) c.in_err-check_answer.field-0.0
    (rw (c.as_known.ensures.list, c.interrupt.ensures.claims) at (sym c.check_answer.ensures ∙ c.in_err-check_answer.was)))
