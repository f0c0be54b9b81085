use Rattle.std.proofs.Common.{◌∙◌}
use Rattle.wf_named.specs.NamedTrees.{expr_trees, args_at, target_at}
use Rattle.wf_types_stmts.proofs.StatementLemmas.{kept_judged}
use Rattle.wf_types_stmts.proofs.assignments.judge_keep.Goals as goal

pub returns : goal.returns
returns c =
    let es = expr_trees c.args.here.now.nodes.now.exprs in
    let call = c.args.call.now in
    c.tell_kept.ensures
    ∙ kept_judged c.args.here.now.around.now c.args.found.now c.judge_target.new.found c.judge_whole_call.new.found (target_at es c.args.target) call.callee call.at call.mark (args_at es call.args) c.in_ok-to.to
    c.in_ok-to.ensures.value c.in_ok-to.ensures.found c.in_ok-judge_whole_call.ensures.found
