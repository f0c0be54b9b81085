use Rattle.std.proofs.Common.{◌∙◌}
use Rattle.wf_named.specs.NamedTrees.{expr_trees, expr_at}
use Rattle.wf_types_exprs.proofs.ExprLemmas.{index_found}
use Rattle.wf_types_stmts.proofs.targets.judge_element.Goals as goal

pub returns-clause-found : goal.returns-clause-found
returns-clause-found c = λ at.
    c.judged_index.ensures.found
    ∙ index_found c.args.here.now.around.now c.args.found.now c.judge_value.new.found c.args.base (expr_at (expr_trees c.args.here.now.nodes.now.exprs) c.args.index) at c.base_value-array.result c.in_ok-v.v
    c.base_value-array.ensures c.in_ok-v.ensures.value c.in_ok-v.ensures.found
