use Rattle.std.proofs.Common.{◌∙◌}
use Rattle.wf_named.specs.NamedTrees.{expr_trees, expr_at, target_at}
use Rattle.wf_types_stmts.proofs.StatementLemmas.{update_judged}
use Rattle.wf_types_stmts.proofs.assignments.judge_update.Goals as goal

pub returns : goal.returns
returns c =
    let es = expr_trees c.args.here.now.nodes.now.exprs in
    let v = c.in_ok-v.v in
    c.tell_update.ensures
    ∙ update_judged c.args.here.now.around.now c.args.found.now c.judge_target.new.found c.judge_value.new.found (target_at es c.args.target) c.args.op (expr_at es c.args.e) c.in_ok-to.to v c.in_ok-to.ensures.value
    c.in_ok-v.ensures.value c.in_ok-to.ensures.found c.in_ok-v.ensures.found
