use Rattle.std.proofs.Common.{◌∙◌}
use Rattle.wf_named.specs.NamedTrees.{expr_trees, expr_at, target_at}
use Rattle.wf_types_stmts.proofs.StatementLemmas.{assigned_judged}
use Rattle.wf_types_stmts.proofs.assignments.judge_equal.Goals as goal

pub returns : goal.returns
returns c =
    let es = expr_trees c.args.here.now.nodes.now.exprs in
    let right = c.in_ok-right.right in
    c.tell_assigned.ensures
    ∙ assigned_judged c.args.here.now.around.now c.args.found.now c.judge_target.new.found c.judge_right.new.found (target_at es c.args.target) (expr_at es c.args.e) c.in_ok-to.to right.value right.lacks c.in_ok-to.ensures.value
    c.in_ok-right.ensures.value c.in_ok-right.ensures.lacks c.in_ok-to.ensures.found c.in_ok-right.ensures.found
