use Rattle.std.proofs.Common.{◌∙◌}
use Rattle.wf_named.specs.NamedTrees.{expr_trees, expr_at}
use Rattle.wf_types_stmts.proofs.StatementLemmas.{yield_judged}
use Rattle.wf_types_stmts.proofs.results.judge_yield.Goals as goal

pub returns : goal.returns
returns c =
    c.tell_yield.ensures
    ∙ yield_judged c.args.here.now.around.now c.args.found.now c.judge_value.new.found c.args.at c.place_of.result (expr_at (expr_trees c.args.here.now.nodes.now.exprs) c.args.e) c.suspends-suspension.result
    c.suspends-suspension.ensures c.place_of.ensures c.in_ok-judge_value.ensures.found
