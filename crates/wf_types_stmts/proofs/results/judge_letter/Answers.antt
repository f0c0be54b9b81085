use Rattle.std.proofs.Common.{◌∙◌}
use Rattle.wf_named.specs.NamedTrees.{expr_trees, expr_at}
use Rattle.wf_types_stmts.proofs.StatementLemmas.{letter_judged}
use Rattle.wf_types_stmts.proofs.results.judge_letter.Goals as goal

pub returns : goal.returns
returns c =
    c.tell_letter.ensures
    ∙ letter_judged c.args.here.now.around.now c.args.found.now c.judge_value.new.found (expr_at (expr_trees c.args.here.now.nodes.now.exprs) c.args.e) c.in_ok-v.v c.in_ok-v.ensures.value c.in_ok-v.ensures.found
