use Rattle.std.proofs.Common.{◌∙◌}
use Rattle.wf_named.specs.NamedTrees.{expr_trees, part_at}
use Rattle.wf_types_stmts.proofs.StatementLemmas.{return_judged}
use Rattle.wf_types_stmts.proofs.results.judge_return.Goals as goal

pub returns : goal.returns
returns c =
    c.tell_return.ensures
    ∙ return_judged c.args.here.now.around.now c.args.found.now c.judge_end.new.found c.args.at (part_at (expr_trees c.args.here.now.nodes.now.exprs) c.args.value) c.in_ok-v.v c.in_ok-v.ensures.end c.in_ok-v.ensures.found
